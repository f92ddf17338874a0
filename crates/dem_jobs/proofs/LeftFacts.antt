-- What is true of the bytes that a source had left, and of what was read of them.
use Rattle.std.proofs.Common.{◌≡◌, ℕ, ◌<◌, ◌≤◌, List, [], ◌++◌, length, Option, None, Some, Ok, Err, refl, sym, ap, ◌∙◌, ⊎_elim, length-append, append-nil, arith}
use Rattle.std.proofs.lemmas.Bool.{cases_lt, lt-ltb}
use Rattle.std.specs.Io.KnownBytes.{Consumes, IsAtEnd}
use Rattle.dem_model.specs.SceneValue.{SceneValue}
use Rattle.dem_model.specs.ReadingScene.{scene_from}
use Rattle.dem_model.specs.declared.fault.SceneFault.TheVariants as scenes
use Rattle.dem_model.specs.declared.limits.TheConstants.{MAX_TEXT}
use Rattle.dem_jobs.specs.Jobs.{ForTold}

-- what follows from a fact of the bytes holds of them too
pub ForTold-weaker : (left : Option (List ℕ)) (P Q : List ℕ → Type 0) → ((bytes : List ℕ) → P bytes → Q bytes) → ForTold left P → ForTold left Q
ForTold-weaker None P Q f p = (p.0, f p.0 p.1)
ForTold-weaker (Some bytes) P Q f p = f bytes p

-- what holds of all bytes holds of those that were left
pub ForTold-all : (left : Option (List ℕ)) (P : List ℕ → Type 0) → ((bytes : List ℕ) → P bytes) → ForTold left P
ForTold-all None P f = ([], f [])
ForTold-all (Some bytes) P f = f bytes

-- a text past the greatest length is refused for it
too-long : (bytes : List ℕ) → MAX_TEXT < length bytes → scene_from bytes ≡ Err scenes.TooLong
unfolding scene_from
too-long bytes long = let e = lt-ltb MAX_TEXT (length bytes) long in rw e

-- what was read has the scene, or the fault, of all that was left
pub same-scene : (left rest : Option (List ℕ)) (read : List ℕ) → Consumes left rest read → (length read ≤ MAX_TEXT → IsAtEnd rest) → ForTold left (λ bytes. scene_from bytes ≡ scene_from read)
same-scene None rest read all ends = (read, refl)
same-scene (Some bytes) None read all ends = absurd all
same-scene (Some bytes) (Some others) read all ends =
    ⊎_elim
    (λ (long : MAX_TEXT < length read). too-long bytes (omega (arith, ap length all, length-append read others)) ∙ sym (too-long read long))
    (λ (short : length read ≤ MAX_TEXT). ap scene_from (all ∙ ap (λ (l : List ℕ). read ++ l) (ends short) ∙ append-nil read))
    (cases_lt MAX_TEXT (length read))

-- nothing is left behind a scene
pub scene-ends : (rest : Option (List ℕ)) (read : List ℕ) (s : SceneValue) → (length read ≤ MAX_TEXT → IsAtEnd rest) → scene_from read ≡ Ok s → IsAtEnd rest
scene-ends rest read s ends is =
    ⊎_elim
    (λ (long : MAX_TEXT < length read). absurd (let fault = too-long read long in cc))
    (λ (short : length read ≤ MAX_TEXT). ends short)
    (cases_lt MAX_TEXT (length read))
