-- The phases of an arm.
use Rattle.std.specs.Prelude.{ℕ, codes, Bool, true, false, List}
use Rattle.gate_model.specs.declared.phase.Phase.{Phase}
use Rattle.gate_model.specs.declared.phase.Phase.TheVariants as P

abbrev pub letter_of : Phase → List ℕ
letter_of P.I = codes "I"
letter_of P.D = codes "D"
letter_of P.W = codes "W"
letter_of P.F = codes "F"
letter_of P.X = codes "X"

abbrev pub same_phase : Phase → Phase → Bool
same_phase P.I P.I = true
same_phase P.D P.D = true
same_phase P.W P.W = true
same_phase P.F P.F = true
same_phase P.X P.X = true
same_phase p q = false
