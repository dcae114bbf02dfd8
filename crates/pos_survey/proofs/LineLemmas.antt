-- The lines of files, one after another.
use Rattle.std.proofs.Common.{◌≡◌, ◌+◌, ◌++◌, ℕ, List, [], ◌∷◌, take, Option, Some, None, sym, ap, ◌∙◌}
use Rattle.std.specs.Prelude.{slice_get}
use Rattle.std.specs.Option.{option_map}
use Rattle.std.proofs.lemmas.Grind.{flat_map-append}
use Rattle.std.proofs.lemmas.List.{take_more, append-nil}
use Rattle.std.proofs.lemmas.Option.{slice_get_within, get_or_from_slice_get}
use Rattle.pos_dir.proofs.FieldLemmas.{some_is}
use Rattle.pos_dir.specs.declared.file.File.{File}
use Rattle.pos_survey.specs.Texts.{file_text, files_text}

-- the lines of one file more
pub one_file_more : (files : List File) (i : ℕ) (name bytes : List ℕ) (found : Option File) → slice_get files i ≡ found
    → Some name ≡ option_map (λ (file : File). file.name) found
    → Some bytes ≡ option_map (λ (file : File). file.bytes) found
    → files_text (take (i + 1) files) ≡ files_text (take i files) ++ file_text name bytes
one_file_more files i name bytes None is named sized = absurd cc
one_file_more files i name bytes (Some file) is named sized =
    let more : take (i + 1) files ≡ take i files ++ file ∷ [] =
    take_more files i file (slice_get_within files i file is)
    ∙ ap (λ (f : File). take i files ++ f ∷ []) (get_or_from_slice_get files i file file is) in
    ap files_text more ∙ flat_map-append (λ (f : File). file_text f.name f.bytes) (take i files) (file ∷ [])
    ∙ ap (λ (t : List ℕ). files_text (take i files) ++ t) (append-nil (file_text file.name file.bytes))
    ∙ ap (λ (n : List ℕ). files_text (take i files) ++ file_text n file.bytes) (sym (some_is name file.name named))
    ∙ ap (λ (b : List ℕ). files_text (take i files) ++ file_text name b) (sym (some_is bytes file.bytes sized))
