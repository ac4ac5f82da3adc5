-- How replies are kept in few bytes: a kind for each, and those that a kind does not tell whole, in a list of their own.
use Rattle.std.specs.Prelude.{◌≡◌, ℕ, ◌+◌, true, false, List, [], ◌∷◌, take, drop}
use Rattle.vx_source.specs.declared.reply.Reply.{Reply}
use Rattle.vx_source.specs.declared.reply.Reply.TheVariants as replies
use Rattle.vx_file.specs.declared.replies.ReplyKind.{ReplyKind}
use Rattle.vx_file.specs.declared.replies.ReplyKind.TheVariants.{Registered, Held, MissingSegment, Pending, Dropped, NotLive, Idle, Whole}
use Rattle.vx_file.specs.declared.replies.Told.{Told}
use Rattle.vx_file.specs.declared.replies.Told.TheVariants as told

-- how many replies of a kind are kept whole, of one
abbrev pub whole_count : ReplyKind → ℕ
whole_count Whole = 1
whole_count kind = 0

-- how many a reply of a kind registers
abbrev pub registered_count : ReplyKind → ℕ
registered_count Registered = 1
registered_count Held = 1
registered_count kind = 0

-- the reply of a kind behind so many that registered; one that is kept whole is that
abbrev pub reply_by : ReplyKind → ℕ → List Reply → Reply
reply_by Registered number whole = replies.Registered number false
reply_by Held number whole = replies.Registered number true
reply_by MissingSegment number whole = replies.MissingSegment
reply_by Pending number whole = replies.Pending
reply_by Dropped number whole = replies.Dropped
reply_by NotLive number whole = replies.NotLive
reply_by Idle number whole = replies.Driven []
reply_by Whole number (reply ∷ []) = reply
reply_by Whole number whole = replies.NotLive

-- the replies of some kinds behind so many that registered, each with its part of those that are kept whole
abbrev pub replies_by : ℕ → List ReplyKind → List Reply → List Reply
replies_by number [] whole = []
replies_by number (kind ∷ kinds) whole =
    reply_by kind number (take (whole_count kind) whole) ∷ replies_by (number + registered_count kind) kinds (drop (whole_count kind) whole)

-- how many replies of some kinds are kept whole
abbrev pub whole_in : List ReplyKind → ℕ
whole_in [] = 0
whole_in (kind ∷ kinds) = whole_count kind + whole_in kinds

-- how many the replies of some kinds register
abbrev pub registered_in : List ReplyKind → ℕ
registered_in [] = 0
registered_in (kind ∷ kinds) = registered_count kind + registered_in kinds

-- a reply is kept by a kind behind so many that registered
abbrev pub Keeps : ℕ → Reply → ReplyKind → Type 0
Keeps number reply Whole = Unit {0}
Keeps number reply kind = reply_by kind number [] ≡ reply

-- a reply that was taken
abbrev pub reply_in : Told → Reply
reply_in (told.Short reply) = reply
reply_in (told.Whole reply) = reply.now
