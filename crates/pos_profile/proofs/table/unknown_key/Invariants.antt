use Rattle.pos_profile.proofs.Common.{get_member, has_only, is_key, is_some, list_all, string_bytes, table_view, true}
use Rattle.pos_profile.proofs.Common.{◌≡◌}
use Rattle.pos_profile.proofs.table.unknown_key.Given as goal

-- the keys that are left decide, and each is one of the table
abbrev pub invariant-loop-key : goal.invariant-loop-key
invariant-loop-key l = record {
  decide : list_all (λ key. is_key l.keys (string_bytes key)) l.key-iterator
      ≡ has_only (is_key l.keys) (table_view l.table);
  there : list_all (λ key. is_some (get_member (string_bytes key) (table_view l.table))) l.key-iterator ≡ true;
}
