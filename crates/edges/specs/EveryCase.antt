-- The edge cases of both doors.
use Rattle.three_bits.specs.Positions.{three_bits}
use Rattle.four_valued.specs.Positions.{four_valued}
use Rattle.edges.specs.Cases.{EachHolds}
use Rattle.edges.specs.ThreeBitCases as T
use Rattle.edges.specs.FourValuedCases as V

-- each case of both tables holds
pub record EveryCase : Type 0 where
  pub three_bit : EachHolds three_bits T.highest T.registers T.table
  pub four_valued : EachHolds four_valued V.highest V.registers V.table
