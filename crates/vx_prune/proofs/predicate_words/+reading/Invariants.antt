use Rattle.std.proofs.Common.{◌+◌, ◌*◌}
use Rattle.vx_prune.proofs.predicate_words.+reading.Given as goal

abbrev pub decreases-read_front : goal.decreases-read_front
decreases-read_front l = 8 * l.levels

abbrev pub decreases-read_operand : goal.decreases-read_operand
decreases-read_operand l = 8 * l.levels + 1

abbrev pub decreases-read_two : goal.decreases-read_two
decreases-read_two l = 8 * l.levels + 2

abbrev pub decreases-read_cast : goal.decreases-read_cast
decreases-read_cast l = 8 * l.levels + 2

abbrev pub decreases-read_test : goal.decreases-read_test
decreases-read_test l = 8 * l.levels + 2

abbrev pub decreases-read_pair : goal.decreases-read_pair
decreases-read_pair l = 8 * l.levels + 3

abbrev pub decreases-read_named : goal.decreases-read_named
decreases-read_named l = 8 * l.levels + 5

abbrev pub decreases-read_word : goal.decreases-read_word
decreases-read_word l = 8 * l.levels + 6

abbrev pub decreases-read_node : goal.decreases-read_node
decreases-read_node l = 8 * l.levels + 4
