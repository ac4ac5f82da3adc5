use Rattle.std.proofs.Common.{◌≡◌, true, drop, length}
use Rattle.std.specs.List.{list_all}
use Rattle.vx_data.specs.Layout.{numbers_of}
use Rattle.vx_footer.specs.FieldSizes.{references_at}
use Rattle.vx_footer.specs.CommonPaths.{commons_after}
use Rattle.vx_footer.specs.Gathering.{path_at, is_known, commons_in}
use Rattle.vx_footer.proofs.gathered.narrow_each.Given as goal

-- the segments so far and those still to come
abbrev pub invariant-loop-id : goal.invariant-loop-id
invariant-loop-id l = record {
  known : list_all (is_known (length l.table)) l.numbers.items ≡ true;
  commons : commons_after (commons_in l.table l.numbers.items) (references_at (path_at l.table l.number) (numbers_of (drop l.id-index l.ids)))
      ≡ commons_after (commons_in l.table l.fn.numbers.items) (references_at (path_at l.table l.number) (numbers_of l.ids));
}
