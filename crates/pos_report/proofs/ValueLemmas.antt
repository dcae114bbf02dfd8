-- The values of files, one after another, how deep they nest, and that none has a float.
use Rattle.std.proofs.Common.{◌≡◌, ◌+◌, ◌++◌, ◌≤◌, ℕ, List, [], ◌∷◌, take, map, Option, Some, None, false, refl, sym, ap, ◌∙◌}
use Rattle.std.proofs.Common.{arith}
use Rattle.std.specs.Prelude.{flat_map, slice_get}
use Rattle.std.specs.Option.{option_map}
use Rattle.std.proofs.lemmas.List.{append-nil, map-append, take_more}
use Rattle.std.proofs.lemmas.Grind.{flat_map-append}
use Rattle.std.proofs.lemmas.Option.{slice_get_within, get_or_from_slice_get}
use Rattle.pos_dir.proofs.FieldLemmas.{some_is}
use Rattle.pos_dir.specs.declared.file.File.{File}
use Rattle.pos_survey.specs.declared.survey.Survey.{Survey}
use Rattle.serde_json.specs.Data.{Data, depth, items_depth}
use Rattle.serde_json.specs.View.{items_of}
use Rattle.serde_json.specs.Written.{has_float, items_have_float}
use Rattle.pos_report.specs.Json.{file_data, survey_data}

abbrev pub value_of : File → Data
value_of file = file_data file.name file.bytes

-- the value of one file more
pub one_value_more : (files : List File) (i : ℕ) (name bytes : List ℕ) (found : Option File) → slice_get files i ≡ found
    → Some name ≡ option_map (λ (file : File). file.name) found
    → Some bytes ≡ option_map (λ (file : File). file.bytes) found
    → map value_of (take (i + 1) files) ≡ map value_of (take i files) ++ file_data name bytes ∷ []
one_value_more files i name bytes None is named sized = absurd cc
one_value_more files i name bytes (Some file) is named sized =
    let more : take (i + 1) files ≡ take i files ++ file ∷ [] =
    take_more files i file (slice_get_within files i file is)
    ∙ ap (λ (f : File). take i files ++ f ∷ []) (get_or_from_slice_get files i file file is) in
    ap (map value_of) more ∙ map-append value_of (take i files) (file ∷ []) ∙ ap
    (λ (n : List ℕ). map value_of (take i files) ++ file_data n file.bytes ∷ []) (sym (some_is name file.name named))
    ∙ ap (λ (b : List ℕ). map value_of (take i files) ++ file_data name b ∷ []) (sym (some_is bytes file.bytes sized))

-- the text of one file more
pub one_text_more : (text_of : List ℕ → List ℕ → List ℕ) (files : List File) (i : ℕ) (name bytes : List ℕ)
    (found : Option File) → slice_get files i ≡ found → Some name ≡ option_map (λ (file : File). file.name) found
    → Some bytes ≡ option_map (λ (file : File). file.bytes) found
    → flat_map (λ (file : File). text_of file.name file.bytes)
    (take (i + 1) files) ≡ flat_map (λ (file : File). text_of file.name file.bytes) (take i files) ++ text_of name bytes
one_text_more text_of files i name bytes None is named sized = absurd cc
one_text_more text_of files i name bytes (Some file) is named sized =
    let texts = λ (fs : List File). flat_map (λ (f : File). text_of f.name f.bytes) fs in
    let more : take (i + 1) files ≡ take i files ++ file ∷ [] =
    take_more files i file (slice_get_within files i file is)
    ∙ ap (λ (f : File). take i files ++ f ∷ []) (get_or_from_slice_get files i file file is) in
    ap texts more ∙ flat_map-append (λ (f : File). text_of f.name f.bytes) (take i files) (file ∷ [])
    ∙ ap (λ (t : List ℕ). texts (take i files) ++ t) (append-nil (text_of file.name file.bytes))
    ∙ ap (λ (n : List ℕ). texts (take i files) ++ text_of n file.bytes) (sym (some_is name file.name named))
    ∙ ap (λ (b : List ℕ). texts (take i files) ++ text_of name b) (sym (some_is bytes file.bytes sized))

-- the same where the text is made of the name alone
pub one_name_more : (text_of : List ℕ → List ℕ) (files : List File) (i : ℕ) (name : List ℕ) (found : Option File)
    → slice_get files i ≡ found → Some name ≡ option_map (λ (file : File). file.name) found
    → flat_map (λ (file : File). text_of file.name) (take (i + 1) files) ≡ flat_map (λ (file : File). text_of file.name)
    (take i files) ++ text_of name
one_name_more text_of files i name None is named = absurd cc
one_name_more text_of files i name (Some file) is named =
    one_text_more (λ n b. text_of n) files i name file.bytes (Some file) is named refl

-- each file is an object without others in it
low : (files : List File) → items_depth (items_of (map value_of files)) ≤ 1
low [] = omega arith
low (file ∷ files) = let rest = low files in omega arith

-- a survey's object has a list of such objects
pub shallow : (it : Survey) (room : Option ℕ) → it.room ≡ room → depth (survey_data it) ≤ 127
shallow it None is = let files = low it.directory.files in rw is (omega arith)
shallow it (Some room) is = let files = low it.directory.files in rw is (omega arith)

-- no file's object has a float
no_files_float : (files : List File) → items_have_float (items_of (map value_of files)) ≡ false
no_files_float [] = refl
no_files_float (file ∷ files) = no_files_float files

-- nor has a survey's object
pub no_float : (it : Survey) (room : Option ℕ) → it.room ≡ room → has_float (survey_data it) ≡ false
no_float it None is = let none = no_files_float it.directory.files in grind (arith, is, none)
no_float it (Some room) is = let none = no_files_float it.directory.files in grind (arith, is, none)
