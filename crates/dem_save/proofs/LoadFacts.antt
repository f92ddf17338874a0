-- What a frame that was read, and its state that was checked, load as.
use Rattle.std.proofs.Common.{◌≡◌, ◌∙◌, ℕ, List, length, Result, Ok, Err, sym, ap, subst}
use Rattle.std.specs.Prelude.{IfOk}
use Rattle.std.proofs.lemmas.Result.{IfOk-at_ok}
use Rattle.dem_model.specs.SceneValue.{SceneValue}
use Rattle.dem_model.specs.Fit.{IsFit}
use Rattle.dem_model.specs.declared.state.State.{State}
use Rattle.dem_frame.specs.PartialFrames.{frame_of}
use Rattle.dem_frame.specs.declared.partial.FrameFault.{FrameFault}
use Rattle.dem_frame.proofs.KeptFacts.{IsRead, frame-read}
use Rattle.dem_save.specs.Loaded.{checked_of, fault_of, then_checked, loaded_of, Gives}
use Rattle.dem_save.specs.declared.fault.SaveFault.{SaveFault}
use Rattle.dem_save.specs.declared.fault.SaveFault.TheVariants as saves
use Rattle.dem_save.proofs.CheckFacts.{checked-fit}

-- the frame of so many clumps is that of the scene's
pub frame-as : (s : SceneValue) (clumps : ℕ) (bytes : List ℕ) (r : Result State FrameFault) → clumps ≡ length s.clumps → frame_of clumps bytes ≡ r → frame_of (length s.clumps) bytes ≡ r
frame-as s clumps bytes r e frame = subst (λ (n : ℕ). frame_of n bytes ≡ r) e frame

-- what the state of a frame keeps
pub frame-kept : (s : SceneValue) (bytes : List ℕ) (st : State) → frame_of (length s.clumps) bytes ≡ Ok st → IsRead (length s.clumps) (length bytes) st
frame-kept s bytes st frame = IfOk-at_ok (IsRead (length s.clumps) (length bytes)) frame (frame-read (length s.clumps) bytes)

-- an answer that is the definition's gives it
same-gives : (r l : Result State SaveFault) → l ≡ r → Gives r l
same-gives (Ok st) l e = e
same-gives (Err (saves.Bad row)) l e = e
same-gives (Err (saves.Short rows)) l e = e
same-gives (Err saves.Step) l e = e
same-gives (Err (saves.Body clump)) l e = e
same-gives (Err (saves.Held place)) l e = e
same-gives (Err saves.OutOfMemory) l e = tt

-- a frame whose state was checked
pub load-checked : (s : SceneValue) (bytes : List ℕ) (st : State) (r : Result State SaveFault) → frame_of (length s.clumps) bytes ≡ Ok st → r ≡ checked_of s st → Gives r (loaded_of s bytes)
unfolding loaded_of
load-checked s bytes st r frame checked = same-gives r _ (ap (then_checked s) frame ∙ sym checked)

-- it is fit where it passed
pub load-fit : (s : SceneValue) (bytes : List ℕ) (st : State) (r : Result State SaveFault) → frame_of (length s.clumps) bytes ≡ Ok st → r ≡ checked_of s st → IfOk r (IsFit s)
load-fit s bytes st r frame checked =
    subst (λ (x : Result State SaveFault). IfOk x (IsFit s)) (sym checked) (checked-fit s (length bytes) st (frame-kept s bytes st frame))

-- a text that is no frame
pub load-fails : (s : SceneValue) (bytes : List ℕ) (fault : FrameFault) → frame_of (length s.clumps) bytes ≡ Err fault → loaded_of s bytes ≡ Err (fault_of fault)
unfolding loaded_of
load-fails s bytes fault frame = ap (then_checked s) frame
