-- The numbers of the refusals, and the words that they print.
use Rattle.std.specs.Prelude.{ℕ, codes, List}
use Rattle.gate_model.specs.declared.refusal.Refusal.{Refusal}
use Rattle.gate_model.specs.declared.refusal.Refusal.TheVariants.{NoArm, Busy, Idle, Inside, Worn, Elsewhere, Taken, StrangePass}

abbrev pub refusal_number : Refusal → ℕ
refusal_number NoArm = 1
refusal_number Busy = 2
refusal_number Idle = 3
refusal_number Inside = 4
refusal_number Worn = 5
refusal_number Elsewhere = 6
refusal_number Taken = 7
refusal_number StrangePass = 8

abbrev pub refusal_word : Refusal → List ℕ
refusal_word NoArm = codes "no arm"
refusal_word Busy = codes "busy"
refusal_word Idle = codes "idle"
refusal_word Inside = codes "inside"
refusal_word Worn = codes "worn"
refusal_word Elsewhere = codes "elsewhere"
refusal_word Taken = codes "taken"
refusal_word StrangePass = codes "strange pass"
