use Rattle.std.proofs.Common.{rules, arith, ◌≡◌, ◌∙◌, ◌+◌, ◌<◌, ◌≤◌, ◌^◌, length, ap, sym}
use Rattle.vx_footer.specs.Serialized.{joined}
use Rattle.vx_footer.specs.Serializers.{parts_seen}
use Rattle.vx_footer.specs.Serializing.{values_view}
use Rattle.vx_write.specs.Written.{serializing, tail_bytes}
use Rattle.vx_write.proofs.EndLemmas.{tail_joined, serialized_ok, serialized_long, serializer_is, told_is}
use Rattle.vx_write.proofs.tail.serialized.Goals as goal

pub returns-then-is_none-clause-value : goal.returns-then-is_none-clause-value
returns-then-is_none-clause-value c p is =
    let s = c.with_metadata_segments-serializer.result in
    let o = c.args.options in
    let content = c.args.footer.content in
    let told : s ≡ serializing o p content =
    serializer_is content _ _ _ _ _ _ _ _ _ _ _ _ c.into_serializer.ensures c.with_layout_context.ensures c.with_offset.ensures c.with_exclude_dtype.ensures c.with_version.ensures c.with_metadata_segments-serializer.ensures
    ∙ told_is o p content _ _ _ _ _ c.in_ok-context.ensures is c.is_dtype_excluded-excluded.ensures c.into_values.ensures.value c.version-version.ensures in
    let bytes = tail_joined c.in_ok-serialized.serialized.buffers.items in
    let long : 2 ^ 64 ≤ c.args.offset + length (joined c.in_ok-serialized.serialized.buffers.items) = search rules in
    serialized_long o p content s (parts_seen c.in_ok-serialized.serialized) told c.in_ok-serialized.ensures.value (omega (arith, long, ap length bytes, is))

pub returns-clause-value : goal.returns-clause-value
returns-clause-value c p is =
    let s = c.with_metadata_segments-serializer.result in
    let o = c.args.options in
    let content = c.args.footer.content in
    let told : s ≡ serializing o p content =
    serializer_is content _ _ _ _ _ _ _ _ _ _ _ _ c.into_serializer.ensures c.with_layout_context.ensures c.with_offset.ensures c.with_exclude_dtype.ensures c.with_version.ensures c.with_metadata_segments-serializer.ensures
    ∙ told_is o p content _ _ _ _ _ c.in_ok-context.ensures is c.is_dtype_excluded-excluded.ensures c.into_values.ensures.value c.version-version.ensures in
    let bytes = tail_joined c.in_ok-serialized.serialized.buffers.items in
    let short : c.args.offset + length (joined c.in_ok-serialized.serialized.buffers.items) < 2 ^ 64 = search rules in
    serialized_ok o p content s (parts_seen c.in_ok-serialized.serialized) told c.in_ok-serialized.ensures.value (omega (arith, short, ap length bytes, is))
