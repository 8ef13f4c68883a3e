use Rattle.std.proofs.Common.{IsTrue, sym, arith, rules}
use Rattle.gate.specs.SameParts.{SameRecords, SameRegisters}
use Rattle.gate.proofs.SameParts.{from_parts, numbers_of, records_of}
use Rattle.gate.proofs.comparing.compare.Goals as goal
use Rattle.gate.proofs.comparing.compare.Goals.{then-same_numbers, else-same_numbers}

pub returns-then-same_records-clause-same : goal.returns-then-same_records-clause-same
returns-then-same_records-clause-same g c =
    let table = g.D.Door.table in
    let s = c.args.a.now in
    let t = c.args.b.now in
    elim c.if-same_numbers.branch [
      | then-same_numbers w ↦
          let registers : IsTrue c.same_registers.result → SameRegisters table s.n s.regs t.regs = rw (sym c.a.view_is, sym c.b.view_is) c.same_registers.ensures.0 in
          let back : SameRegisters table s.n s.regs t.regs → IsTrue c.same_registers.result = rw (sym c.a.view_is, sym c.b.view_is) c.same_registers.ensures.1 in
          let records : IsTrue w.same_records.result → SameRecords table s.n s.arms t.arms = rw (sym c.a.view_is, sym c.b.view_is) w.same_records.ensures.0 in (
            λ holds. from_parts table s t (c.same_numbers.ensures.0 (search rules)) (records (search rules)) (registers holds),
            λ h. back h.but_marks.registers,
          )
      | else-same_numbers w ↦ absurd (let holds = c.if-same_records.true in let fails = w.value-is in grind arith)
    ]

pub returns-else-same_records-clause-same : goal.returns-else-same_records-clause-same
returns-else-same_records-clause-same g c =
    let table = g.D.Door.table in
    let s = c.args.a.now in
    let t = c.args.b.now in (
      λ holds. absurd (let fails = c.if-same_records.false in grind arith),
      λ h. elim c.if-same_numbers.branch [
        | then-same_numbers w ↦
            let back : SameRecords table s.n s.arms t.arms → IsTrue w.same_records.result = rw (sym c.a.view_is, sym c.b.view_is) w.same_records.ensures.1 in
            let all = back (records_of table s t h) in search rules
        | else-same_numbers w ↦ let all = c.same_numbers.ensures.1 (numbers_of table s t h) in search rules
      ],
    )
