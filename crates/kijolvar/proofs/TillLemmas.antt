-- A `Till`, whose machine values are those of the loose box of its session. Assumes `Logic`.
use Rattle.kijolvar.proofs.Common.{Ghosts, Laws, RattleType}
use Rattle.kijolvar.specs.contracts.session.Session.{the_row as session_row}
use Rattle.std.proofs.alloc.Global.TheLaws.{the_row_laws as global_laws}
use Rattle.std.specs.contracts.alloc.Global.{the_row as global_row}
use Rattle.std.specs.contracts.impls.GlobalAllocator.TheImpl.{ghosts as global_ghosts}
use Rattle.kijolvar.specs.contracts.till.Till as till
use Rattle.kijolvar.proofs.ValueLemmas.{RawBox}

abbrev pub R : RattleType
R = session_row

abbrev pub Z : RattleType
Z = global_row

abbrev pub LZ : Laws Z
LZ = global_laws

abbrev pub g : Ghosts Z.Denot
g = global_ghosts

abbrev pub Till : RattleType
Till = till.the_row

-- a till as the loose box of its session
abbrev pub as_loose : Till.Denot → (RawBox R Z LZ g).Denot
as_loose till = record { at = till.at; alloc = till.alloc; value = till.session }
