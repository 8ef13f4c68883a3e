-- The numbers of a recorder's refusals, and the words that they print; a refusal of its gate keeps its own.
use Rattle.std.specs.Prelude.{ℕ, codes, List}
use Rattle.gate_model.specs.Refusals as G
use Rattle.recorder.specs.declared.refusal.Refusal.{Refusal}
use Rattle.recorder.specs.declared.refusal.Refusal.TheVariants.{FileFull, UnfitGate, Gate}

abbrev pub refusal_number : Refusal → ℕ
refusal_number FileFull = 18
refusal_number UnfitGate = 19
refusal_number (Gate r) = G.refusal_number r

abbrev pub refusal_word : Refusal → List ℕ
refusal_word FileFull = codes "file full"
refusal_word UnfitGate = codes "unfit gate"
refusal_word (Gate r) = G.refusal_word r
