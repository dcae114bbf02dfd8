-- The groups of records, applied one after another.
use Rattle.std.proofs.Common.{◌≡◌, ◌+◌, ◌<◌, ◌≤◌, ℕ, List, ◌∷◌, ◌++◌, length, get_or, take, drop, map, sym, ap, ◌∙◌}
use Rattle.std.proofs.Common.{arith, take-append-drop, length-append}
use Rattle.std.proofs.lemmas.Grind.{flat_map-append}
use Rattle.std.proofs.lemmas.List.{map-append}
use Rattle.pos_dir.specs.declared.file.File.{File}
use Rattle.pos_dir.specs.declared.file.Limits.{Limits}
use Rattle.pos_log.specs.Records.{record_spelling, spelling}
use Rattle.pos_store.proofs.RecordLemmas.{front_drop}
use Rattle.pos_store.specs.Standing.{Applies}
use Rattle.pos_survey.specs.Damages.{IsRefused, StopsFor}
use Rattle.pos_survey.specs.declared.fault.SurveyFault.{SurveyFault}
use Rattle.pos_survey.specs.declared.fault.SurveyFault.TheVariants as fault

-- what stands before an item, the item, and what stands behind it
pub in_three : {X : Type 0} (f : X → List ℕ) (xs : List X) (i : ℕ) {x : X} → i < length xs → x ≡ get_or xs i x
    → map f xs ≡ map f (take i xs) ++ f x ∷ map f (drop (i + 1) xs)
in_three f xs i {x} less is =
    ap (map f) (sym (take-append-drop i xs) ∙ ap (λ d. take i xs ++ d) (front_drop xs i x less is))
    ∙ map-append f (take i xs) (x ∷ drop (i + 1) xs)

-- a record ends before all of them do
pub ends_within : {texts : List (List ℕ)} (before behind : List (List ℕ)) (text : List ℕ)
    → texts ≡ before ++ text ∷ behind → length (spelling before) + (5 + length text) ≤ length (spelling texts)
ends_within before behind text is =
    let whole = ap length (ap spelling is ∙ flat_map-append record_spelling before (text ∷ behind)) in
    let two = length-append (spelling before) (record_spelling text ++ spelling behind) in
    let one = length-append (record_spelling text) (spelling behind) in
    omega arith

-- the first text that isn't applied
pub stops : (limits : Limits) (base files : List File) {texts : List (List ℕ)} (before behind : List (List ℕ))
    (text : List ℕ) (first : ℕ) {at : ℕ} (cause : SurveyFault) → texts ≡ before ++ text ∷ behind
    → at ≡ first + length (spelling before) → Applies limits base before files → IsRefused limits files text at cause
    → StopsFor limits base texts first cause
stops limits base files before behind text first fault.NoMemory is place applies flaw = tt
stops limits base files before behind text first fault.TooSmall is place applies flaw = flaw
stops limits base files before behind text first fault.Unformatted is place applies flaw = flaw
stops limits base files before behind text first (fault.Damaged there broken) is place applies (same, flaw) = record {
  before = before;
  text = text;
  behind = behind;
  files = files;
  texts_are = is;
  place_is = same ∙ place;
  applies = applies;
  flaw = flaw;
}
