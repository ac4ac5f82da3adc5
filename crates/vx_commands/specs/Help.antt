-- The text of the help, part by part.
use Rattle.std.specs.Prelude.{ℕ, List, ◌++◌, codes}

abbrev pub what_help : List ℕ
what_help = codes "vx serves the segments of columnar files, tells how large fields are, skips\nfiles, prints their rows, and writes them.\n\n"

abbrev pub usage_help : List ℕ
usage_help = codes "usage: vx COMMAND\n\n"

abbrev pub commands_help : List ℕ
commands_help = codes "commands\n"

abbrev pub serve_help : List ℕ
serve_help = codes "  serve NAME    opens the file NAME, reads a script from standard input, and\n"

abbrev pub serve_more_help : List ℕ
serve_more_help = codes "                prints the file's footer and one reply for each step\n"

abbrev pub size_help : List ℕ
size_help = codes "      --size N      the file has N bytes: its size is not asked\n"

abbrev pub initial_help : List ℕ
initial_help = codes "      --initial N   the first read asks for the last N bytes, 65535 at least\n"

abbrev pub dtype_help : List ℕ
dtype_help = codes "      --dtype D     the rows have the type D: the file's own is not read\n"

abbrev pub meta_help : List ℕ
meta_help = codes "      --meta        the values of the metadata are read and printed\n"

abbrev pub distance_help : List ℕ
distance_help = codes "      --distance D  reads at most D bytes apart are merged, with --max M into\n                    one of at most M bytes\n"

abbrev pub reads_help : List ℕ
reads_help = codes "      --reads K     one call asks for at most K ranges, 1 to 1024\n"

abbrev pub cache_help : List ℕ
cache_help = codes "      --cache N     the N segments used last are kept, 1 to 65536\n"

abbrev pub sizes_help : List ℕ
sizes_help = codes "  sizes NAME    prints how many bytes each field of the file NAME takes\n      --dtype D     the rows have the type D: the file's own is not read\n"

abbrev pub prune_help : List ℕ
prune_help = codes "  prune NAME P  prints whether the file NAME can be skipped, since no row of it\n                satisfies the predicate P; a --dtype stands in front of P\n"

abbrev pub scan_help : List ℕ
scan_help = codes "  scan NAME     prints the type of the rows of the file NAME, and the rows\n      --dtype D     the rows have the type D: the file's own is not read\n"

abbrev pub scan_filter_help : List ℕ
scan_filter_help = codes "      --filter P    only the rows that satisfy the predicate P; it stands last\n"

abbrev pub demo_help : List ℕ
demo_help = codes "  demo V ..     serves a file of the values V, numbers of 32 bits, which it\n                writes to memory\n"

abbrev pub write_help : List ℕ
write_help = codes "  write         reads a type and rows, a line each, from standard input, and\n                writes their file to standard output\n"

abbrev pub write_options_help : List ℕ
write_options_help = codes "      --no-dtype    the type is left out; with --no-stats the statistics are\n"

abbrev pub write_blocks_help : List ℕ
write_blocks_help = codes "      --block N     blocks have N rows, 8192 where it is not said\n      --target N    blocks are gathered to N bytes, 1048576 where it is not said\n"

abbrev pub write_more_help : List ℕ
write_more_help = codes "      --meta K HEX  bytes in hexadecimal under the key K of the metadata\n      --v2          the file is of the second version\n"

abbrev pub gen_help : List ℕ
gen_help = codes "  gen SEED ROWS writes ROWS rows that follow from SEED, at most 1000000, to memory,\n                and prints how large their file is and what opening it reads\n"

abbrev pub texts_help : List ℕ
texts_help = codes "  --help        prints this text\n  --version     prints the version\n"

abbrev pub options_help : List ℕ
options_help = codes "options stand in any order, each at most once but --meta of write\n\n"

abbrev pub script_help : List ℕ
script_help = codes "script, a step a line\n"

abbrev pub register_help : List ℕ
register_help = codes "  r SEGMENT     registers a request for a segment; requests are numbered from 0\n"

abbrev pub poll_help : List ℕ
poll_help = codes "  p NUMBER      polls the request of a number\n"

abbrev pub drop_help : List ℕ
drop_help = codes "  d NUMBER      drops the request of a number\n"

abbrev pub drive_help : List ℕ
drive_help = codes "  go            reads for each request that was polled and waits\n\n"

abbrev pub predicates_help : List ℕ
predicates_help = codes "predicates, each node in front of its operands\n"

abbrev pub nodes_help : List ℕ
nodes_help = codes "  root   field PATH   lit TYPE VALUE   cast TYPE P   add P P   eq|ne|lt|le|gt|ge P P\n  and P P   or P P   not P   isnull P   notnull P\n\n"

abbrev pub statuses_help : List ℕ
statuses_help = codes "exit statuses, each with a line on standard error but 0\n"

abbrev pub statuses_2_help : List ℕ
statuses_2_help = codes "  0  all was printed                    6  the input could not be read\n  2  the arguments are no command       7  the output could not be written\n"

abbrev pub statuses_3_help : List ℕ
statuses_3_help = codes "  3  a line of the input is wrong       8  the file could not be opened\n  4  the file is refused                9  the input is too long\n"

abbrev pub statuses_4_help : List ℕ
statuses_4_help = codes "  5  the file could not be read        70  out of memory\n\n"

abbrev pub example_help : List ℕ
example_help = codes "example\n  printf 'r 0\\np 0\\n' | vx demo 1 2 3 4\n"

abbrev pub help_text : List ℕ
help_text =
    what_help ++ usage_help ++ commands_help ++ serve_help ++ serve_more_help ++ size_help ++ initial_help ++ dtype_help
    ++ meta_help ++ distance_help ++ reads_help ++ cache_help ++ sizes_help ++ prune_help ++ scan_help ++ scan_filter_help ++ demo_help ++ write_help
    ++ write_options_help ++ write_blocks_help ++ write_more_help ++ gen_help ++ texts_help ++ options_help ++ script_help ++ register_help
    ++ poll_help ++ drop_help ++ drive_help ++ predicates_help ++ nodes_help ++ statuses_help ++ statuses_2_help ++ statuses_3_help ++ statuses_4_help
    ++ example_help
