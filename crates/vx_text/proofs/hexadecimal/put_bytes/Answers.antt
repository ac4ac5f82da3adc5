use Rattle.std.proofs.Common.{rules, arith, ◌≡◌, ◌∷◌, [], length, ap}
use Rattle.vx_text.proofs.HexLemmas.{put-none, put-more}
use Rattle.vx_text.proofs.hexadecimal.put_bytes.Goals as goal

pub loop-rest-init : goal.loop-rest-init
loop-rest-init c = record { put = put-none c.args.bytes.now c.args.text.now; room = c.requires }

pub loop-rest-preserved : goal.loop-rest-preserved
loop-rest-preserved c = record {
  put = put-more c.args.bytes.now c.split_at.result.0.now c.loop-rest.rest.now c.split_at.result.1.now c.args.text.now c.loop-rest.text c.put_vector.new.text
      c.split_at.ensures.by_index.0 c.loop-rest.invariant.put c.put_vector.ensures.holds;
  room = omega (arith, c.loop-rest.invariant.room, c.put_vector.ensures.long);
}

pub loop-byte-preserved : goal.loop-byte-preserved
loop-byte-preserved c =
    let is : c.loop-byte.rest.now ≡ c.in-Some.byte.now ∷ c.in-Some.behind.now = search rules in
    record {
      put = put-more c.args.bytes.now (c.in-Some.byte.now ∷ []) c.loop-byte.rest.now c.in-Some.behind.now c.args.text.now c.loop-byte.text c.put_byte.new.text
          is c.loop-byte.invariant.put c.put_byte.ensures.holds;
      room = omega (arith, ap length is, c.loop-byte.invariant.room, c.put_byte.ensures.long);
    }
