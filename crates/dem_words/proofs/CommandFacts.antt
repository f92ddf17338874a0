-- The command is one of which the definitions of clap tell both outcomes.
use Rattle.std.proofs.Common.{◌≡◌, ℕ, List, [], ◌∷◌, true, false, Bool, cond, length, Option, Some, None, Result, Ok, Err, refl, sym, ap, ◌∙◌, ◌⊎◌, inl, inr, subst, arith}
use Rattle.clap.specs.Words.{App, HasMatchesOf, app_of, found_of, rows_of, FailsBy, HasKind, IsAmong, Kinds, Row, Text, fault_of, is_simple, is_simple_and_free, kind_of, matches_of}
use Rattle.std.proofs.lemmas.Bool.{ne_eqb}
use Rattle.clap.specs.Walk.{is_empty}
use Rattle.clap.specs.declared.error.Error.{Error}
use Rattle.clap.specs.declared.error.kind.ErrorKind.{ErrorKind}
use Rattle.clap.specs.declared.error.kind.ErrorKind.TheVariants as kinds
use Rattle.clap.proofs.OnLiterals.{clap_on_literals}
use Rattle.dem_words.specs.CommandLine.{command, matches}
use Rattle.dem_words.specs.Meaning.{Matches, fault_by}
use Rattle.dem_words.specs.declared.order.WordFault.{WordFault}
use Rattle.clap.specs.declared.builder.command.Command.{Command}
use Rattle.clap.specs.declared.parser.matches.ArgMatches.{ArgMatches}

pub is_one : is_simple_and_free command ≡ true
unfolding clap_on_literals
is_one = refl

pub is_simple_one : is_simple command ≡ true
unfolding clap_on_literals
is_simple_one = refl

-- words in which no step fails have their matches
pub taken : (words : List Text) → fault_of command words ≡ [] → matches words ≡ Some (matches_of command words)
unfolding matches
taken words none = rw none refl

by_some : (ks : Kinds) (k : ErrorKind) (rows : Option (List Row)) → IsAmong k ks → cond (is_empty ks) rows None ≡ None
by_some [] k rows among = absurd among
by_some (x ∷ xs) k rows among =
    let some : is_empty (x ∷ xs) ≡ false = ne_eqb (length (x ∷ xs)) 0 (λ e. omega arith) in rw some refl

-- words in which a step fails have none
pub refused : (words : List Text) (k : ErrorKind) → IsAmong k (fault_of command words) → matches words ≡ None
unfolding matches
refused words k among = by_some (fault_of command words) k (Some (matches_of command words)) among

-- a command that is this one takes the words that it has matches of
pub by_command : (c : Command) (words : List Text) (m : ArgMatches) → app_of c ≡ command → HasMatchesOf (app_of c) words m → (is_simple_and_free (app_of c) ≡ true → fault_of (app_of c) words ≡ [])
    → matches words ≡ Some (rows_of (found_of m))
by_command c words m same has none =
    taken words (ap (λ a. fault_of a words) (sym same) ∙ none (ap is_simple_and_free same ∙ is_one))
    ∙ ap Some (ap (λ a. matches_of a words) (sym same) ∙ sym (has (ap is_simple same ∙ is_simple_one)).0)

by_kind : (words : List Text) (k : ErrorKind) → (k ≡ kinds.OutOfMemory) ⊎ IsAmong k (fault_of command words) → Matches words (Err (fault_by k))
by_kind words k (inl memory) = subst (λ x. Matches words (Err (fault_by x))) (sym memory) tt
by_kind words kinds.OutOfMemory (inr among) = tt
by_kind words k (inr among) = refused words k among

-- and refuses the words that it has none of, unless there was no memory
pub refused_by : (c : Command) (words : List Text) (e : Error) (fault : WordFault) → app_of c ≡ command → fault ≡ fault_by (kind_of e)
    → (is_simple_and_free (app_of c) ≡ true → HasKind (fault_of (app_of c) words) e) → Matches words (Err fault)
refused_by c words e fault same is fails =
    let kind : HasKind (fault_of command words) e = subst (λ a. HasKind (fault_of a words) e) same (fails (ap is_simple_and_free same ∙ is_one)) in
    subst (λ f. Matches words (Err f)) (sym is) (by_kind words (kind_of e) kind)
