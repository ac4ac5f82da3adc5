-- Counts of what a reader was asked.
use Rattle.std.specs.Prelude.{ℕ, ◌+◌, nat_lt, min, if◌then◌else◌}
use Rattle.vx_base.specs.Counts.{last_count}
use Rattle.vx_sched.specs.declared.metrics.RequestMetrics.{RequestMetrics}

-- a count with so many more, or at its last value
abbrev pub raised_by : ℕ → ℕ → ℕ
raised_by count more = min (count + more) last_count

-- with a span of so many reads
abbrev pub with_span : ℕ → RequestMetrics → RequestMetrics
with_span reads m = if nat_lt reads 2
    then record m { individual_requests = raised_by m.individual_requests 1 }
    else record m { coalesced_requests = raised_by m.coalesced_requests 1; num_requests_coalesced = raised_by m.num_requests_coalesced reads }

-- with a call for so many ranges
abbrev pub with_call : ℕ → RequestMetrics → RequestMetrics
with_call ranges m = record m {
  read_ranges_calls = raised_by m.read_ranges_calls 1;
  read_ranges_multi = raised_by m.read_ranges_multi (if nat_lt ranges 2 then 0 else 1);
  read_ranges_num_ranges = raised_by m.read_ranges_num_ranges ranges;
}
