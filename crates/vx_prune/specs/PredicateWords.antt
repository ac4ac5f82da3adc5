-- Predicates as words spell them: each node in front of its operands.
use Rattle.std.specs.Prelude.{ℕ, zero, suc, ◌==◌, Bool, true, false, if◌then◌else◌}
use Rattle.std.specs.Prelude.{List, [], ◌∷◌, length, codes, Option, Some, None}
use Rattle.std.specs.List.{list_any}
use Rattle.std.specs.Option.{option_map, option_and_then}
use Rattle.std.specs.Result.{result_ok}
use Rattle.std.specs.Str.{bytes_eq}
use Rattle.vx_data.specs.Dtype.{Dtype}
use Rattle.vx_data.specs.Scalar.{Value, flag, number, words}
use Rattle.vx_data.specs.TextsRead.{quoted_in, after, dtype_of_text}
use Rattle.vx_rows.specs.declared.predicate.Comparison.TheVariants.{Eq, Ne, Lt, Le, Gt, Ge}
use Rattle.vx_rows.specs.Predicates.{Pred, lit, root, path, cast, add, compare, both, either, negated, null_test, present_test}
use Rattle.vx_rows.specs.ReadRows.{rows_of}
use Rattle.vx_rows.specs.Rows.{Rows, bools, ints, texts, structs}
use Rattle.vx_prune.specs.declared.node.Node.{Node}
use Rattle.vx_prune.specs.declared.node.Node.TheVariants as nodes

-- what words spell in front, and the words behind it
abbrev pub Front : Type 0
Front = Option (Pred × List (List ℕ))

-- ---- the word of each node

abbrev pub node_named : List ℕ → Option Node
node_named w =
    if bytes_eq w (codes "lit") then Some nodes.Lit
    else if bytes_eq w (codes "root") then Some nodes.Root
    else if bytes_eq w (codes "field") then Some nodes.Field
    else if bytes_eq w (codes "cast") then Some nodes.Cast
    else if bytes_eq w (codes "add") then Some nodes.Add
    else if bytes_eq w (codes "eq") then Some (nodes.Compare Eq)
    else if bytes_eq w (codes "ne") then Some (nodes.Compare Ne)
    else if bytes_eq w (codes "lt") then Some (nodes.Compare Lt)
    else if bytes_eq w (codes "le") then Some (nodes.Compare Le)
    else if bytes_eq w (codes "gt") then Some (nodes.Compare Gt)
    else if bytes_eq w (codes "ge") then Some (nodes.Compare Ge)
    else if bytes_eq w (codes "and") then Some nodes.And
    else if bytes_eq w (codes "or") then Some nodes.Or
    else if bytes_eq w (codes "not") then Some nodes.Not
    else if bytes_eq w (codes "isnull") then Some nodes.IsNull
    else if bytes_eq w (codes "notnull") then Some nodes.NotNull
    else None

abbrev pub has_one_operand : Node → Bool
has_one_operand nodes.Not = true
has_one_operand nodes.IsNull = true
has_one_operand nodes.NotNull = true
has_one_operand _ = false

abbrev pub has_two_operands : Node → Bool
has_two_operands nodes.Add = true
has_two_operands (nodes.Compare op) = true
has_two_operands nodes.And = true
has_two_operands nodes.Or = true
has_two_operands _ = false

-- ---- literals

-- the only one of some rows
abbrev pub only : {A : Type 0} → List (Option A) → Option (Option A)
only [] = None
only (row ∷ []) = Some row
only (row ∷ other ∷ rows) = None

-- the value of the only row of a column, or null; a struct is no value
abbrev pub only_value : Rows → Option (Option Value)
only_value (bools c) = option_map (option_map flag) (only c.rows)
only_value (ints c) = option_map (option_map number) (only c.rows)
only_value (texts c) = option_map (option_map words) (only c.rows)
only_value (structs c cs) = None

abbrev pub has_line_feed : List ℕ → Bool
has_line_feed t = list_any (λ byte. byte == 10) t

-- the value that a word spells as the one row of a type
abbrev pub literal_of : Dtype → List ℕ → Option (Option Value)
literal_of d t = if has_line_feed t then None else option_and_then only_value (result_ok (rows_of d t))

-- a type and a value of it
abbrev pub literal_in : List (List ℕ) → Front
literal_in [] = None
literal_in (type ∷ []) = None
literal_in (type ∷ value ∷ ws) = option_and_then (λ d. option_map (λ v. (lit d v, ws)) (literal_of d value)) (dtype_of_text type)

-- ---- paths

-- a name, and behind a `/` more of them
abbrev pub behind_name : List ℕ → (List ℕ → Option (List (List ℕ))) → List ℕ → Option (List (List ℕ))
behind_name name more t = if length t == 0 then Some (name ∷ []) else option_map (λ names. name ∷ names) (option_and_then more (after (codes "/") t))

-- so many names at most
unfoldable pub names_in : ℕ → List ℕ → Option (List (List ℕ))
names_in zero t = None
names_in (suc most) t = option_and_then (λ name. behind_name name.0 (names_in most) name.1) (quoted_in t)

-- quoted names, joined by `/`
abbrev pub names_of : List ℕ → Option (List (List ℕ))
names_of t = names_in (length t) t

abbrev pub field_in : List (List ℕ) → Front
field_in [] = None
field_in (t ∷ ws) = option_map (λ names. (path names, ws)) (names_of t)

-- ---- nodes with operands, which are read so

abbrev pub one_in : (List (List ℕ) → Front) → (Pred → Pred) → List (List ℕ) → Front
one_in read make ws = option_map (λ p. (make p.0, p.1)) (read ws)

-- two operands, and the words behind them
abbrev pub pair_in : (List (List ℕ) → Front) → List (List ℕ) → Option (Pred × Pred × List (List ℕ))
pair_in read ws = option_and_then (λ p. option_map (λ q. (p.0, q.0, q.1)) (read p.1)) (read ws)

abbrev pub two_in : (List (List ℕ) → Front) → (Pred → Pred → Pred) → List (List ℕ) → Front
two_in read make ws = option_map (λ x. (make x.0 x.1, x.2)) (pair_in read ws)

abbrev pub cast_in : (List (List ℕ) → Front) → List (List ℕ) → Front
cast_in read [] = None
cast_in read (type ∷ ws) = option_and_then (λ d. one_in read (cast d) ws) (dtype_of_text type)

abbrev pub node_in : (List (List ℕ) → Front) → Option Node → List (List ℕ) → Front
node_in read None ws = None
node_in read (Some nodes.Lit) ws = literal_in ws
node_in read (Some nodes.Root) ws = Some (root, ws)
node_in read (Some nodes.Field) ws = field_in ws
node_in read (Some nodes.Cast) ws = cast_in read ws
node_in read (Some nodes.Add) ws = two_in read add ws
node_in read (Some (nodes.Compare op)) ws = two_in read (compare op) ws
node_in read (Some nodes.And) ws = two_in read both ws
node_in read (Some nodes.Or) ws = two_in read either ws
node_in read (Some nodes.Not) ws = one_in read negated ws
node_in read (Some nodes.IsNull) ws = one_in read null_test ws
node_in read (Some nodes.NotNull) ws = one_in read present_test ws

-- ---- predicates

-- the node of the first word, with operands that are read so
abbrev pub word_in : (List (List ℕ) → Front) → List (List ℕ) → Front
word_in read [] = None
word_in read (w ∷ ws) = node_in read (node_named w) ws

-- a predicate of at most so many levels, in front of words
unfoldable pub predicate_in : ℕ → List (List ℕ) → Front
predicate_in zero ws = None
predicate_in (suc levels) ws = word_in (predicate_in levels) ws

-- what no word follows
abbrev pub alone : Front → Option Pred
alone None = None
alone (Some x) = if length x.1 == 0 then Some x.0 else None

-- the predicate that words spell
unfoldable pub predicate_of : List (List ℕ) → Option Pred
predicate_of ws = alone (predicate_in 64 ws)
