-- What the program without words does, from what a run over a profile does.
use Rattle.std.proofs.Common.{◌≡◌, ◌∷◌, [], inl, inr, sym, refl, subst}
use Rattle.std.specs.Prelude.{◌⊎◌, Result}
use Rattle.pos_disk.proofs.MomentLemmas.{rest_leaves}
use Rattle.pos_disk.specs.Memory.{Memory, state_of}
use Rattle.pos_disk.specs.State.{DiskState}
use Rattle.pos_image.specs.Standing.{HasNoFiles}
use Rattle.pos_image.specs.declared.layout.Layout.TheVariants.{Layout1}
use Rattle.pos_profile.specs.Built.{built}
use Rattle.pos_profile.specs.Entries.{Contents}
use Rattle.pos_store.specs.Standing.{LeavesOneOf, Stands, StandsForOneOf}
use Rattle.pos_store.proofs.DiskFileLemmas.{new_standing}
use Rattle.pos_counter.specs.Steps.{Run}
use Rattle.pos_run.specs.declared.scripts.RunFault.{RunFault}
use Rattle.pos_run.specs.Runs.{new_totals}
use Rattle.pos_run.specs.Simulations.{FindsNoMemory, ProfileLeaves, ProfileRuns, RunsOverProfile, RunsSimulated}
use Rattle.pos_run.specs.Simulations.{SimulatedLeaves}
use Rattle.pos_run.specs.Streams.{Streams}
use Rattle.pos_run.specs.Transcript.{begun_session}
use Rattle.pos_console.specs.Service.{RunsBuilt, Serves, in_memory, start, start_spares}

-- a disk that was formatted leaves no files, with sequence 1
pub new_disk_leaves : (disk : DiskState) → HasNoFiles disk → LeavesOneOf (Stands Layout1 [] 1 ∷ []) disk
new_disk_leaves disk new bytes may = subst (StandsForOneOf (Stands Layout1 [] 1 ∷ []))
    (sym (rest_leaves disk bytes new.at_rest may)) (inl (new_standing disk.reading new.image))

-- where there was no memory, the program leaves what it leaves then, wherever it began
pub served_nothing : (streams : Streams) (result : Result (Unit {0}) RunFault) → FindsNoMemory streams result
    → Serves streams result
served_nothing streams result (same, (reader, writer)) =
    subst (λ (r : Result (Unit {0}) RunFault). Serves streams r) (sym same) (record {
      keys = inl (refl, (reader, writer));
      end = start;
      left = begun_session start_spares;
      run = record {
        input = [];
        reader = (refl, reader);
        run = (refl, refl, writer);
      };
    })

-- over the built-in profile and a new disk the program begins at the start
pub serves_built : (contents : Contents) (disk after : Memory) (streams : Streams)
    (result : Result (Unit {0}) RunFault) → contents ≡ built → HasNoFiles (state_of disk)
    → ProfileLeaves in_memory contents disk streams result after
    → SimulatedLeaves in_memory contents disk streams result after → Serves streams result
serves_built contents disk after streams result is new leaves simulated =
    from_start (subst (λ (c : Contents). ProfileLeaves in_memory c disk streams result after) is leaves)
    (subst (λ (c : Contents). SimulatedLeaves in_memory c disk streams result after) is simulated)
  where
    from_start : (FindsNoMemory streams result × (after ≡ disk)) ⊎ ProfileRuns in_memory built disk streams result after
        → (FindsNoMemory streams result × (after ≡ disk)) ⊎ RunsSimulated in_memory built disk streams result after
        → Serves streams result
    from_start (inl nothing) simulated = served_nothing streams result nothing.0
    from_start runs (inl nothing) = served_nothing streams result nothing.0
    from_start (inr runs) (inr simulated) =
        let left = Stands Layout1 [] 1 ∷ [] in
        let over : RunsOverProfile Run built (new_totals left 0) streams result =
        (runs.0 left tt (new_disk_leaves (state_of disk) new)).0.text in
        record {
          keys = inr (record { disk = disk; after = after; empty = new; runs = simulated });
          end = over.end;
          left = over.left;
          run = over.run;
        }
