-- Leaves as numbers, by which a proof tells them apart.
use Rattle.std.specs.Prelude.{List, refl}
use Rattle.std.specs.Coded.{Coded, code_by, coded×, coded_list}
use Rattle.vx_rows.specs.Rows.{Rows}
use Rattle.vx_rows.specs.RowsCode.{rows_code}
use Rattle.vx_write.specs.contracts.strategy.LeafStrategy as leaf_strategy
use Rattle.vx_write.specs.declared.strategy.LeafStrategy.{LeafStrategy}
use Rattle.vx_write.specs.Leaves.{Leaf, LeafState, LeafStates}

abbrev pub leaf_code : Coded Leaf
leaf_code =
    code_by (LeafStrategy × Rows) (coded× (leaf_strategy.the_row).coded rows_code) (λ l. (l.strategy, l.kept))
    (λ p. record { strategy = p.0; kept = p.1 }) (λ _. refl)

abbrev pub state_code : Coded LeafState
state_code = code_by (Leaf × Leaf) (coded× leaf_code leaf_code) (λ l. (l.now, l.next)) (λ p. record { now = p.0; next = p.1 }) (λ _. refl)

abbrev pub states_code : Coded LeafStates
states_code =
    code_by (List Leaf × List Leaf) (coded× (coded_list leaf_code) (coded_list leaf_code)) (λ l. (l.now, l.next))
    (λ p. record { now = p.0; next = p.1 }) (λ _. refl)
