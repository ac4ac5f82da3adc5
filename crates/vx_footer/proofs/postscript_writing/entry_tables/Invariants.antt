use Rattle.std.proofs.Common.{◌≡◌, ◌++◌, map, drop}
use Rattle.vx_footer.specs.PostscriptWritten.{entry_pieces}
use Rattle.vx_footer.proofs.postscript_writing.entry_tables.Given as goal

-- the tables so far and those still to come
abbrev pub invariant-loop-at : goal.invariant-loop-at
invariant-loop-at l = l.tables.items ++ map entry_pieces (drop l.at l.entries) ≡ map entry_pieces l.entries
