use Rattle.std.proofs.Common.{◌≡◌, ◌<◌, ◌≤◌, ◌*◌, ◌+◌, drop, length}
use Rattle.vx_data.specs.Dtype.{pairs_view}
use Rattle.vx_data.specs.Layout.{layouts_of, tree_size, trees_size}
use Rattle.vx_footer.specs.FieldSizes.{paths_below, references_below, chunk_parts, field_parts}
use Rattle.vx_footer.specs.Gathering.{path_at, Gathering, Meets}
use Rattle.vx_footer.proofs.visits.+visiting.Given as goal

abbrev pub decreases-visit : goal.decreases-visit
decreases-visit l = 4 * tree_size l.layout.now

abbrev pub decreases-visit_struct : goal.decreases-visit_struct
decreases-visit_struct l = 4 * trees_size (layouts_of l.children.now) + 3

abbrev pub decreases-visit_nullable : goal.decreases-visit_nullable
decreases-visit_nullable l = 4 * trees_size (layouts_of l.children.now) + 2

abbrev pub decreases-visit_fields : goal.decreases-visit_fields
decreases-visit_fields l = 4 * trees_size (layouts_of l.children.now) + 1

abbrev pub decreases-visit_chunks : goal.decreases-visit_chunks
decreases-visit_chunks l = 4 * trees_size (layouts_of l.children.now) + 1

-- what is still to come leads to the whole
abbrev pub invariant-visit_chunks-loop-at : goal.invariant-visit_chunks-loop-at
invariant-visit_chunks-loop-at l =
    let p = path_at l.fn.gathered.paths l.number in
    let ts = layouts_of (drop l.at l.children) in let all = layouts_of l.children in
    record {
      inside : l.number < length l.gathered.paths;
      path : path_at l.gathered.paths l.number ≡ p;
      rest : (new : Gathering) → Meets l.gathered new (paths_below p (chunk_parts ts) ts) (references_below p (chunk_parts ts) ts)
          → Meets l.fn.gathered new (paths_below p (chunk_parts all) all) (references_below p (chunk_parts all) all);
      smaller : trees_size ts ≤ trees_size all;
    }

abbrev pub invariant-visit_fields-loop-at : goal.invariant-visit_fields-loop-at
invariant-visit_fields-loop-at l =
    let p = path_at l.fn.gathered.paths l.number in
    let parts = field_parts (pairs_view (drop l.at l.fields)) in let ts = layouts_of (drop l.at l.children) in
    let all_parts = field_parts (pairs_view l.fields) in let all = layouts_of l.children in
    record {
      inside : l.number < length l.gathered.paths;
      path : path_at l.gathered.paths l.number ≡ p;
      rest : (new : Gathering) → Meets l.gathered new (paths_below p parts ts) (references_below p parts ts)
          → Meets l.fn.gathered new (paths_below p all_parts all) (references_below p all_parts all);
      smaller : trees_size ts ≤ trees_size all;
    }
