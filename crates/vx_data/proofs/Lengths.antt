-- A list that is seen by a view is as long as before.
use Rattle.std.proofs.lemmas.List.{length-map}

pub ruleset lengths = (length-map)
