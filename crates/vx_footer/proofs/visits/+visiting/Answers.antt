use Rattle.std.proofs.Common.{◌≡◌, arith, rules}
use Rattle.std.specs.Prelude.{string_bytes, ◌++◌, ◌∷◌, []}
use Rattle.vx_data.specs.Dtype.{dtype_view, pairs_view}
use Rattle.vx_data.specs.Layout.{layouts_of, numbers_of, children_of, dtype_of, kind_of}
use Rattle.vx_footer.specs.FieldSizes.{chunk_parts, field_parts, struct_parts, child_parts}
use Rattle.vx_footer.specs.Gathering.{path_at, IsMetAt}
use Rattle.vx_footer.proofs.VisitSteps.{where_ok, flat_meets, node_meets, chunk_meets, no_chunk_meets, field_meets, next_field_meets, no_field_meets, validity_meets, still_inside, still_path}
use Rattle.vx_data.proofs.LayoutTables.{next_size}
use Rattle.vx_footer.proofs.visits.+visiting.Goals as goal

pub visit-returns-in-Flat : goal.visit-returns-in-Flat
visit-returns-in-Flat n c =
    let a = c.args.gathered.now in
    flat_meets a c.meet.new.self (path_at a.paths c.args.number) c.args.layout.now (numbers_of c.segment_ids.result.now) (search rules) c.segment_ids.ensures c.meet.ensures

pub visit-returns-in-Chunked : goal.visit-returns-in-Chunked
visit-returns-in-Chunked n c =
    let a = c.args.gathered.now in
    let ts = layouts_of c.children.result.now in
    let t = c.args.layout.now in
    let chunked : chunk_parts ts ≡ child_parts (kind_of t) (dtype_of t) (children_of t) = (search rules) in
    where_ok c.visit_chunks.result _ _ (node_meets a c.meet.new.self c.visit_chunks.new.gathered c.args.number t (numbers_of c.segment_ids.result.now) (chunk_parts ts) ts
    c.requires c.segment_ids.ensures chunked c.children.ensures c.meet.ensures) c.visit_chunks.ensures

pub visit-returns-in-Struct : goal.visit-returns-in-Struct
visit-returns-in-Struct n c =
    let a = c.args.gathered.now in
    let ts = layouts_of c.children-in-Struct.result.now in
    let t = c.args.layout.now in
    let parts = struct_parts (dtype_view c.dtype.result.now) in
    let fields : parts ≡ child_parts (kind_of t) (dtype_of t) (children_of t) = (search rules) in
    where_ok c.visit_struct.result _ _ (node_meets a c.meet.new.self c.visit_struct.new.gathered c.args.number t (numbers_of c.segment_ids.result.now) parts ts
    c.requires c.segment_ids.ensures fields c.children-in-Struct.ensures c.meet.ensures) c.visit_struct.ensures

pub visit_chunks-loop-at-preserved : goal.visit_chunks-loop-at-preserved
visit_chunks-loop-at-preserved n c =
    let b = c.loop-at.gathered in
    let p = path_at c.args.gathered.now.paths c.args.number in
    let new = c.visit.new.gathered in
    let i = c.loop-at.at in
    let inv = c.loop-at.invariant in
    record {
      inside = still_inside b new c.args.number _ _ c.in_ok-visit.ensures inv.inside;
      path = still_path b new c.args.number p _ _ c.in_ok-visit.ensures inv.inside inv.path;
      rest = λ g m. inv.rest g (chunk_meets b new g c.args.number p c.args.children.now i c.index-children-at.result (search rules) c.index-children-at.is inv.path c.in_ok-visit.ensures m);
      smaller = omega (arith, next_size c.args.children.now c.loop-at.at c.index-children-at.result (search rules) c.index-children-at.is, inv.smaller);
    }

pub visit_chunks-returns : goal.visit_chunks-returns
visit_chunks-returns n c =
    let b = c.loop-at.gathered in
    c.loop-at.invariant.rest b (no_chunk_meets b (path_at c.args.gathered.now.paths c.args.number) c.args.children.now c.loop-at.at (search rules))

pub visit_fields-loop-at-preserved : goal.visit_fields-loop-at-preserved
visit_fields-loop-at-preserved n c =
    let a = c.loop-at.gathered in
    let b = c.child.new.self in
    let new = c.visit.new.gathered in
    let p = path_at c.args.gathered.now.paths c.args.number in
    let q = path_at a.paths c.args.number ++ string_bytes c.index-fields-at.result.0 ∷ [] in
    let inv = c.loop-at.invariant in
    let child : IsMetAt a b q c.in_ok-child.child = (search rules) in
    let met = field_meets a b new q c.in_ok-child.child c.index-children-at.result child c.in_ok-visit.ensures in
    record {
      inside = still_inside a new c.args.number _ _ met inv.inside;
      path = still_path a new c.args.number p _ _ met inv.inside inv.path;
      rest = λ g m. inv.rest g (next_field_meets a b new g c.args.number c.in_ok-child.child p c.args.fields.now c.args.children.now c.loop-at.at
          c.index-fields-at.result c.index-children-at.result (search rules) (search rules) c.index-fields-at.is c.index-children-at.is inv.path child c.in_ok-visit.ensures m);
      smaller = omega (arith, next_size c.args.children.now c.loop-at.at c.index-children-at.result (search rules) c.index-children-at.is, inv.smaller);
    }

pub visit_fields-returns : goal.visit_fields-returns
visit_fields-returns n c =
    let b = c.loop-at.gathered in
    c.loop-at.invariant.rest b (no_field_meets b (path_at c.args.gathered.now.paths c.args.number) c.args.fields.now c.args.children.now c.loop-at.at (search rules))

pub visit_nullable-returns : goal.visit_nullable-returns
visit_nullable-returns n c =
    where_ok c.visit_fields.result _ _ (validity_meets c.args.gathered.now c.visit_chunks.new.gathered c.visit_fields.new.gathered c.args.number c.min.result
    (field_parts (pairs_view c.args.fields.now)) c.args.children.now c.requires (search rules) (search rules)) (search rules)
