-- What a day comes to for each arm, and how its rounds are counted.
use Rattle.std.specs.Prelude.{ℕ, ◌+◌, ◌-◌, ◌^◌, min, max, Bool, false, if◌then◌else◌, not, List, map, replicate, slice_index, slice_set}
use Rattle.std.specs.List.{list_any, range_with_len}
use Rattle.gate_model.specs.History.{is_in}
use Rattle.gate_model.specs.States.{State, is_arm, arm_at}
use Rattle.gate_model.specs.Table.{Table}
use Rattle.gate_model.specs.declared.phase.Phase.{Phase}
use Rattle.gate_model.specs.declared.phase.Phase.TheVariants as P
use Rattle.gate.specs.Answers.{largest_count}
use Rattle.plantday.specs.declared.record.Record.{Record}

-- how many arms the plant has
abbrev pub plant_arms : ℕ
plant_arms = 6

-- n and one more; a count of 32 bits stops at its highest value
abbrev pub counted_up : ℕ → ℕ
counted_up n = min (n + 1) (2 ^ 32 - 1)

-- the record when the day begins
abbrev pub empty_record : Record
empty_record =
    record {
      delivered = replicate plant_arms 0;
      passed = replicate plant_arms 0;
      waited = replicate plant_arms 0;
      turns = 0;
      since = replicate plant_arms 0;
      due = replicate plant_arms false;
      rounds = 0;
    }

-- a reading of arm k + 1 was delivered
abbrev pub with_delivery : ℕ → Record → Record
with_delivery k r = record r { delivered = slice_set r.delivered k (counted_up (slice_index r.delivered k)) }

-- arm k + 1 ended its doorway: its wait begins with the next round
abbrev pub with_wait : ℕ → Record → Record
with_wait k r = record r { since = slice_set r.since k (counted_up r.rounds) }

-- arm k + 1 went inside, and `most` is the largest count of its row: the longest wait and the largest count are kept
abbrev pub with_entry : ℕ → ℕ → Record → Record
with_entry k most r =
    record r {
      passed = slice_set r.passed k (max (slice_index r.passed k) most);
      waited = slice_set r.waited k (max (slice_index r.waited k) (r.rounds - slice_index r.since k));
    }

-- these arms are due (they have still to move before the round is over), and so many rounds are over
abbrev pub with_round : List Bool → ℕ → Record → Record
with_round due rounds r = record r { due = due; rounds = rounds }

-- whether some arm is due
abbrev pub some_due : List Bool → Bool
some_due due = list_any (λ d. d) due

module _ {At : Type 0} (door : Table At) where
  -- whether the gate has arm k + 1 and it is not idle
  abbrev pub is_busy : State At → ℕ → Bool
  is_busy s k = if is_arm s (k + 1) then not (is_in door P.I s (k + 1)) else false

  -- arm k + 1 moved: a round is over once no arm is due, and then every arm that is not idle is due
  abbrev pub with_move : State At → ℕ → Record → Record
  with_move s k r =
      let left = slice_set r.due k false in
      (if some_due left then with_round left r.rounds r else with_round (map (is_busy s) (range_with_len 0 plant_arms)) (counted_up r.rounds) r)

  -- arm k + 1 was inside with no pass out: its reading was delivered, and it left; the gate is s after that
  abbrev pub with_leave : State At → ℕ → Record → Record
  with_leave s k r = with_move s k (with_delivery k r)

  -- the largest count in the row of arm k + 1
  abbrev pub most_past : State At → ℕ → ℕ
  most_past s k = largest_count (arm_at door s (k + 1)).row s.n

  -- arm k + 1 stepped from one phase to another; the gate is s after that
  abbrev pub noted : State At → ℕ → Phase → Phase → Record → Record
  noted s k P.D P.W r = with_wait k r
  noted s k P.W P.F r = with_entry k (most_past s k) r
  noted s k from to r = r
