-- A text gives a profile or is refused, and never both.
use Rattle.kijolvar.proofs.Common.{List, Option, [], ap, arith, refl, sym, true≢false, ℕ, ◌∙◌, ◌∷◌, ◌≡◌}
use Rattle.std.proofs.Common.{Err, Ok, ⊎_elim, ◌≢◌}
use Rattle.std.specs.Prelude.{IsUtf8, None, Some, map}
use Rattle.kijolvar.specs.Profiles.{IsRefused}
use Rattle.pos_profile.specs.Entries.{Contents}
use Rattle.pos_profile.specs.Profiles.{FromDocument, is_repeated, names_of}
use Rattle.pos_profile.specs.declared.entry.Entry.{Entry}
use Rattle.pos_profile.specs.declared.profile.ProfileFault.{ProfileFault}
use Rattle.pos_profile.specs.declared.profile.ProfileFault.TheVariants.{BadEntry, BadText, Duplicate, NoMemory}
use Rattle.toml.specs.Data.{Members}
use Rattle.toml.specs.Parse.{parse_document}

same_entries : (xs ys : List Entry) → map Some xs ≡ map Some ys → xs ≡ ys
same_entries [] [] same = refl
same_entries [] (y ∷ ys) same = grind arith
same_entries (x ∷ xs) [] same = grind arith
same_entries (x ∷ xs) (y ∷ ys) same = grind (arith, same_entries xs ys)

-- a document that is a profile isn't refused but for want of memory
pub one_answer : (document : Option Members) (contents : Contents) (why : ProfileFault)
    → FromDocument document (Ok contents) → FromDocument document (Err why) → why ≢ NoMemory → ⊥
one_answer (Some root) contents BadText is refused other = refused
one_answer (Some root) contents (BadEntry number) is refused other =
    true≢false (sym refused.here ∙ is.read.sound number)
one_answer (Some root) contents (Duplicate name) is refused other =
    let same = same_entries contents.devices refused.contents.devices (sym is.read.devices ∙ refused.read.devices) in
    true≢false (sym refused.first.here ∙ ap (λ (devices : List Entry). is_repeated (names_of devices) refused.place)
    (sym same) ∙ is.names refused.place)
one_answer (Some root) contents NoMemory is refused other = other refl
one_answer None contents why is refused other = is

-- bytes of a text that is a profile aren't refused
pub sound_isnt_refused : (bytes : List ℕ) (contents : Contents) → IsUtf8 bytes
    → FromDocument (parse_document bytes) (Ok contents) → ¬ (IsRefused bytes)
sound_isnt_refused [] contents text is = λ refused. refused
sound_isnt_refused (byte ∷ bytes) contents text is = ⊎_elim (λ no_text. no_text text)
    (λ (why, other, refused). one_answer (parse_document (byte ∷ bytes)) contents why is refused other)
