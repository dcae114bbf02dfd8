-- Which scripts are in a folder (docs/reference/tool.md, "test").
use Rattle.std.specs.Prelude.{◌≡◌, ◌≢◌, ◌-◌, ◌++◌, ◌∷◌, [], ℕ, List, Option, Some, None, Result, Ok, Err, String, Vec}
use Rattle.std.specs.Prelude.{codes, flat_map, if◌then◌else◌, length, map, nat_eq, take}
use Rattle.std.specs.Borrow.{Bor}
use Rattle.std.specs.Cmp.Lexicographic.{slice_cmp}
use Rattle.std.specs.List.{ends_with}
use Rattle.std.specs.List.Sorted.{IsPermutation, IsSorted}
use Rattle.std.specs.Ordering.{nat_cmp}
use Rattle.pos_tool.specs.Texts.{texts}
use Rattle.pos_tool.specs.declared.fault.Fault.{Fault}
use Rattle.pos_tool.specs.declared.fault.Fault.TheVariants as fault
use Rattle.pos_tool.specs.declared.folder.Folder.{Ghosts as FolderGhosts}

-- the script that a name is the wanted answers of, which is what is before .stdout; none if it ends otherwise
abbrev pub script_of : List ℕ → List (List ℕ)
script_of name =
    if ends_with nat_eq name (codes ".stdout") then take (length name - 7) name ∷ [] else []

-- The scripts in a folder with these names: each that has its wanted answers there, once, in the order of the bytes.
pub record AreScripts (names scripts : List (List ℕ)) : Type 0 where
  pub all : IsPermutation (flat_map script_of names) scripts
  pub sorted : IsSorted (slice_cmp nat_cmp) scripts

-- the path of a name in a folder
abbrev pub in_folder : List ℕ → List ℕ → List ℕ
in_folder folder name =
    if ends_with nat_eq folder (codes "/") then folder ++ name else (folder ++ codes "/" ++ name)

-- the paths that a path stands for: itself, if it is no folder's; else those of the scripts in the folder
abbrev pub StandsForPaths : List ℕ → Option (List (List ℕ)) → List (List ℕ) → Type 0
StandsForPaths path None paths = paths ≡ path ∷ []
StandsForPaths path (Some names) paths = (scripts : List (List ℕ)) × AreScripts names scripts × (scripts ≢ [])
    × (paths ≡ map (in_folder path) scripts)

-- what finding the scripts in a folder with these names comes to
abbrev pub FindsIn : List ℕ → List (List ℕ) → Result (List (List ℕ)) Fault → Type 0
FindsIn path names (Ok paths) = StandsForPaths path (Some names) paths
FindsIn path names (Err (fault.NoScripts at)) = (at.now ≡ path) × AreScripts names []
FindsIn path names (Err why) = why ≡ fault.NoMemory

-- what finding the scripts of one path comes to
abbrev pub FindsAt : {S : Type 0} → FolderGhosts S → S → List ℕ → Result (List (List ℕ)) Fault → Type 0
FindsAt folder them path (Ok paths) =
    (names : Option (List (List ℕ))) × folder.lists them path (Ok names) × StandsForPaths path names paths
FindsAt folder them path (Err (fault.Folder at cause)) = (at.now ≡ path) × folder.lists them path (Err cause)
FindsAt folder them path (Err (fault.NoScripts at)) = (at.now ≡ path)
    × ((names : List (List ℕ)) × folder.lists them path (Ok (Some names)) × AreScripts names [])
FindsAt folder them path (Err why) = why ≡ fault.NoMemory

-- the paths that some paths stand for, in order
abbrev pub FindsAll : {S : Type 0} → FolderGhosts S → S → List (Bor (List ℕ)) → List (List ℕ) → Type 0
FindsAll folder them [] found = found ≡ []
FindsAll folder them (path ∷ paths) found = (first : List (List ℕ)) × (others : List (List ℕ))
    × FindsAt folder them path.now (Ok first) × FindsAll folder them paths others × (found ≡ first ++ others)

-- What finding the scripts of some paths comes to.
abbrev pub FindsScripts : {S : Type 0} → FolderGhosts S → S → List (Bor (List ℕ)) → Result (List (List ℕ)) Fault
    → Type 0
FindsScripts folder them paths (Ok found) = FindsAll folder them paths found
FindsScripts folder them paths (Err why) = (earlier : List (Bor (List ℕ))) × (path : Bor (List ℕ))
    × (later : List (Bor (List ℕ))) × (paths ≡ earlier ++ path ∷ later) × FindsAt folder them path.now (Err why)

-- paths that were found, as lists
abbrev pub found_in : {A B : Type 0} → Result (Vec (String A) B) Fault → Result (List (List ℕ)) Fault
found_in (Ok paths) = Ok (texts paths.items)
found_in (Err why) = Err why
