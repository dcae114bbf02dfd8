-- How gates are closed, one after another.
use Rattle.std.proofs.Common.{◌≡◌, ◌++◌, ◌∷◌, [], ◌∙◌, ◌<◌, ℕ, List, Result, Ok, Err, false, length, ap, arith, inl, inr}
use Rattle.std.proofs.Common.{refl, subst}
use Rattle.std.proofs.lemmas.List.{length-set}
use Rattle.std.specs.Prelude.{slice_set, true}
use Rattle.pos_survey.specs.Damages.{Breaks}
use Rattle.pos_survey.specs.declared.fault.SurveyFault.{SurveyFault}
use Rattle.pos_survey.specs.declared.fault.SurveyFault.TheVariants.{Damaged, NoMemory, TooSmall, Unformatted}
use Rattle.pos_report.proofs.OpenGateLemmas.{closes_one, open_gates}
use Rattle.pos_report.specs.Salvage.{Closes, EndsAll, Found, IsClosed, IsRemade, IsUnsalvaged, MakesSound, PutsFirst}
use Rattle.pos_report.specs.Salvage.{Says, Steps, cut_line, padded}
use Rattle.pos_report.specs.Salvage.{can_be_put, closed, first_line, gate_of, lost_line}

-- no gate is closed
pub begins : (old said : List ℕ) → IsClosed old said old said
begins old said = record { found = []; broken = tt; new_is = refl; told_is = refl }

-- one gate more
pub goes_on : (first before old said new told : List ℕ) → IsClosed first before old said
    → Steps old said (Ok false) new told → IsClosed first before new told
goes_on first before old said new told is (at, broken, breaks, opened, new_is, told_is) = record {
  found = (at, broken) ∷ is.found;
  broken = (is.broken, subst (λ bytes. Breaks bytes (Damaged at broken)) is.new_is breaks);
  new_is = new_is ∙ ap (λ bytes. slice_set bytes (gate_of at broken) 0) is.new_is;
  told_is = told_is ∙ ap (λ text. text ++ lost_line at broken) is.told_is;
}

-- what is said is the same
pub says_same : (fault : SurveyFault) (said : List ℕ) → Says fault said said
says_same NoMemory said = tt
says_same TooSmall said = refl
says_same Unformatted said = refl
says_same (Damaged at broken) said = refl

-- bytes in which gates were closed are as long as before
pub closed_length : (found : Found) (bytes : List ℕ) → length (closed found bytes) ≡ length bytes
closed_length [] bytes = refl
closed_length (one ∷ earlier) bytes =
    length-set (closed earlier bytes) (gate_of one.0 one.1) 0 ∙ closed_length earlier bytes

-- bytes in which gates were closed are as long as before, by what closing comes to
pub closes_length : (old said new told : List ℕ) (fault : SurveyFault) → Closes old said (Err fault) new told
    → length new ≡ length old
closes_length old said new told fault closes =
    let is = closes.0.1 in
    ap (λ (bytes : List ℕ). length bytes) is.new_is ∙ closed_length is.found old

-- no sound bytes are left, and the image of new totals can't be put again
pub ends_all : (old said new told : List ℕ) (fault : SurveyFault) → Closes old said (Err fault) new told
    → can_be_put fault new ≡ false → EndsAll old said new fault
ends_all old said new told fault closes cannot = record {
  lines = closes.0.0;
  left = inl closes.0.1;
  breaks = closes.1;
  ends = closes.2;
  cannot = inl cannot;
}

-- no memory for what is to be made sound
pub wants : (source : List ℕ) → IsUnsalvaged source NoMemory
wants source = record {
  bytes = padded source;
  ends = ends_all (padded source) (cut_line source) (padded source) (cut_line source) NoMemory
      ((cut_line source, begins _ _, tt), tt, tt) refl;
}

-- what is said when the image can be put again is what was said of the gates
says_lines : (fault : SurveyFault) (bytes lines told : List ℕ) → can_be_put fault bytes ≡ true → Says fault lines told
    → told ≡ lines
says_lines Unformatted bytes lines told can says = says
says_lines NoMemory bytes lines told can says = grind (arith, can)
says_lines TooSmall bytes lines told can says = says
says_lines (Damaged at broken) bytes lines told can says = says

-- gates were closed once more, after the image of new totals was put again
remade : (old said left lines put told new last : List ℕ) (fault : SurveyFault) → Closes old said (Err fault) left lines
    → can_be_put fault left ≡ true → PutsFirst left lines (Ok (record {})) put told → IsClosed put told new last
    → IsRemade old said new last
remade old said left lines put told new last fault closes can puts again =
    let same = says_lines fault left closes.0.0 lines can closes.0.2 in
    record {
      left = left;
      lines = closes.0.0;
      closes = closes.0.1;
      fault = fault;
      breaks = closes.1;
      can = can;
      again = subst (λ (bytes : List ℕ). IsClosed bytes (closes.0.0 ++ first_line) new last) puts.0
          (subst (λ (text : List ℕ). IsClosed put text new last)
          (puts.1 ∙ ap (λ (text : List ℕ). text ++ first_line) same) again);
    }

-- what becomes of bytes in which the image of new totals was put again
pub makes : (old said left lines put told new last : List ℕ) (fault : SurveyFault)
    (result : Result (Unit {0}) SurveyFault) → Closes old said (Err fault) left lines → can_be_put fault left ≡ true
    → PutsFirst left lines (Ok (record {})) put told → Closes put told result new last
    → MakesSound old said result new last
makes old said left lines put told new last fault (Ok u) closes can puts again =
    (inr (remade old said left lines put told new last fault closes can puts again.0), again.1)
makes old said left lines put told new last fault (Err why) closes can puts again =
    let made = remade old said left lines put told new again.0.0 fault closes can puts again.0.1 in
    record { lines = again.0.0; left = inr made; breaks = again.1; ends = again.2; cannot = inr made }

-- bytes with one gate more closed are as long as before
pub same_length : (old said new told : List ℕ) → Steps old said (Ok false) new told → length new ≡ length old
same_length old said new told (at, broken, breaks, opened, new_is, told_is) =
    ap (λ (bytes : List ℕ). length bytes) new_is ∙ length-set old (gate_of at broken) 0

-- and fewer gates are open
pub fewer_gates : (old said new told : List ℕ) → Steps old said (Ok false) new told → open_gates new < open_gates old
fewer_gates old said new told (at, broken, breaks, opened, new_is, told_is) =
    rw new_is (closes_one old (gate_of at broken) opened)
