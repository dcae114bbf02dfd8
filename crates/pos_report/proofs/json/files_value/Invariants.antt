use Rattle.std.proofs.Common.{◌≡◌, map, take}
use Rattle.serde_json.specs.View.{view}
use Rattle.pos_report.specs.Json.{file_data}
use Rattle.pos_report.proofs.json.files_value.Given as goal

abbrev pub invariant-loop-index : goal.invariant-loop-index
invariant-loop-index l =
    map view l.files.items ≡ map (λ file. file_data file.name file.bytes) (take l.index l.directory.files)
