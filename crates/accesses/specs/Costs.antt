-- How the costs of calls are counted.
use Rattle.std.specs.Prelude.{ℕ, ◌+◌, ◌-◌, ◌^◌, min, max, Bool, if◌then◌else◌}
use Rattle.accesses.specs.declared.counting_bank.Count.{Count}
use Rattle.accesses.specs.declared.cost.Cost.{Cost}
use Rattle.accesses.specs.declared.cost.Costs.{Costs}

-- a sum; a count of 64 bits stops at its highest value
abbrev pub sum_up : ℕ → ℕ → ℕ
sum_up m n = min (m + n) (2 ^ 64 - 1)

-- what was counted between two counts
abbrev pub spent : Count → Count → Count
spent earlier later = record { reads = later.reads - earlier.reads; writes = later.writes - earlier.writes }

abbrev pub no_calls : Cost
no_calls = record { calls = 0; reads = 0; writes = 0; least = 2 ^ 64 - 1; most = 0 }

-- the cost with one more call, which made so many accesses
abbrev pub with_call : Count → Cost → Cost
with_call count c =
    record {
      calls = sum_up c.calls 1;
      reads = sum_up c.reads count.reads;
      writes = sum_up c.writes count.writes;
      least = min c.least (sum_up count.reads count.writes);
      most = max c.most (sum_up count.reads count.writes);
    }

-- the costs with one more call, accepted or refused
abbrev pub with_answer : Bool → Count → Costs → Costs
with_answer accepted count c =
    (if accepted then record c { accepted = with_call count c.accepted } else record c { refused = with_call count c.refused })
