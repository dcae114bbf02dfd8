-- What two readings of a file, one right after the other, are among its calls.
use Rattle.std.proofs.Common.{◌≡◌, ◌++◌, ◌∷◌, [], ◌∙◌, ◌+◌, ◌<◌, ℕ, Err, List, None, Some, ap, append_assoc, inr, subst, sym}
use Rattle.std.proofs.lemmas.List.{flat_map_more, length_push}
use Rattle.std.proofs.lemmas.List.Elements.{All-push}
use Rattle.std.specs.Prelude.{◌≢◌}
use Rattle.pos_file.specs.Calls.{Call}
use Rattle.pos_file.specs.Disks.{Asks}
use Rattle.pos_tool.specs.Copies.{AreTurns, IsUnreadTwice, ReadsFront, ReadsSteady, ReadsTwice, front_read, turn_of}
use Rattle.pos_program.specs.declared.file_fault.FileFault.{FileFault}

module _ {F : Type 0} (calls : F → List Call) (old mid new : F) (one other : List ℕ)
    (first : ReadsFront calls old mid one) (second : ReadsFront calls mid new other) where
  asked : Asks calls old new (turn_of (one, other))
  asked = second.0 ∙ ap (λ before. before ++ front_read other ∷ []) first.0
      ∙ append_assoc (calls old) (front_read one ∷ []) (front_read other ∷ [])

  -- both gave the same
  pub same_twice : other ≡ one → ReadsTwice calls old new (Some other)
  same_twice same = (subst (λ bytes. Asks calls old new (turn_of (bytes, other))) (sym same) asked, second.1)

  -- they gave different bytes
  pub different : other ≢ one → ReadsTwice calls old new None
  different differ = (one, other, (λ same. differ (sym same)), asked)

-- so many turns of two readings that never gave the same, between two states of a file
abbrev pub HasTurns : {F : Type 0} → (F → List Call) → F → F → ℕ → Type 0
HasTurns calls old new count = (asked : List Call) × AreTurns asked count × Asks calls old new asked

module _ {F : Type 0} (calls : F → List Call) (old mid new : F) (count : ℕ) (turns : HasTurns calls old mid count) where
  from_start : (more : List Call) → Asks calls mid new more → Asks calls old new (turns.0 ++ more)
  from_start more asks = asks ∙ ap (λ first. first ++ more) turns.2 ∙ append_assoc (calls old) turns.0 more

  -- one more of them
  pub one_turn_more : ReadsTwice calls mid new None → HasTurns calls old new (count + 1)
  one_turn_more (one, other, differ, asks) = (
    turns.0 ++ turn_of (one, other),
    record {
      gave = turns.1.gave ++ (one, other) ∷ [];
      made = ap (λ first. first ++ turn_of (one, other)) turns.1.made
          ∙ flat_map_more turn_of [] turns.1.gave (one, other);
      differ = All-push (λ turn. turn.0 ≢ turn.1) turns.1.gave (one, other) turns.1.differ differ;
      as_often = length_push turns.1.gave (one, other) ∙ ap (λ n. n + 1) turns.1.as_often;
    },
    from_start (turn_of (one, other)) asks,
  )

  -- and then the bytes aren't read
  pub unread : count < 1_000 → (why : FileFault) → IsUnreadTwice (calls mid) (calls new) why
      → ReadsSteady calls old new (Err why)
  unread few why is =
      inr (turns.0, count, turns.1, few, subst (λ first. IsUnreadTwice first (calls new) why) turns.2 is)
