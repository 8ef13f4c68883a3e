-- Reader and writer are inverse, and so is each call of them.
use Rattle.std.proofs.Common.{◌≡◌, ℕ, ◌<◌, ◌≤◌, ◌↔◌, Bool, true, leb, List, ◌++◌, length, get_or, take, drop, is_ok, IsTrue, Ok, Decides, sym, refl, ap, ◌∙◌, subst, arith}
use Rattle.std.proofs.lemmas.List.Elements.{All-from_get_or}
use Rattle.std.proofs.lemmas.List.{take_at}
use Rattle.std.proofs.lemmas.Bool.{le-leb, leb-true}
use Rattle.std.proofs.lemmas.Bool.Decides.{nat_tests, Decides-by_and}
use Rattle.schedule.specs.declared.order_number.Order.{Order}
use Rattle.schedule.specs.Laws.{bytes_of, IsLawful, WritesLawful, Inverse, WasRead, WasWritten}
use Rattle.schedule.specs.FileLimits.{largest_number, largest_arm}
use Rattle.schedule.specs.Memory.{put_into}
use Rattle.schedule.specs.Orders.{order_number, arm_of_order}
use Rattle.schedule.specs.Reading.{Contents, contents, says, heading}
use Rattle.schedule.specs.Writing.{file_bytes, are_small, file_of, length_of}
use Rattle.schedule.proofs.Groups.{Near, number_near, near_number}
use Rattle.schedule.proofs.FromList.{reads_back}
use Rattle.schedule.proofs.FromFile.{reads_lawful}

-- the writer has a file for the lawful lists, and for no other
pub writes_lawful : WritesLawful
writes_lawful c = (forth, back)
  where
    each : (o : Order) → Decides (leb (order_number o) largest_number) (arm_of_order o ≤ largest_arm)
    each o = (λ t. near_number o (leb-true (order_number o) largest_number t), λ h. le-leb (order_number o) largest_number (number_near o h))

    d : Decides (are_small c.orders) (Near c.orders)
    d = Decides-by_and (λ o. leb (order_number o) largest_number) (λ o. arm_of_order o ≤ largest_arm) are_small each refl (λ _ _. refl) c.orders

    forth : IsLawful c → file_of c.arms c.orders ≡ Ok (bytes_of c)
    forth l = let t = d.1 l.near_arms in grind (arith, nat_tests)

    back : (file : List ℕ) → file_of c.arms c.orders ≡ Ok file → IsLawful c × (file ≡ bytes_of c)
    back file e =
        let t : are_small c.orders ≡ true = grind (arith, nat_tests) in
        (record { some_arms = grind (arith, nat_tests); few_arms = grind (arith, nat_tests); near_arms = d.0 t; short = grind (arith, nat_tests) }, grind (arith, nat_tests))

pub inverse : Inverse
inverse = record { writes_lawful = writes_lawful; reads_back = reads_back; reads_lawful = reads_lawful; one_file = λ c l file b e. (reads_lawful file b c e).1 }

-- one call of the reader
pub was_read : (file : List ℕ) (memory out : List Order) (c : Contents) → ((i : ℕ) → get_or file i 0 < 256) → says file ≡ Ok c
    → length c.orders ≤ length memory → out ≡ put_into memory c.orders → WasRead (Ok (heading c)) file out
was_read file memory out c b s room m =
    let n = length c.orders in
    let is : out ≡ c.orders ++ drop n memory = grind (arith, nat_tests) in
    let same : take n out ≡ c.orders = ap (take n) is ∙ take_at c.orders (drop n memory) n refl in
    subst (λ xs. IsLawful (contents c.arms xs) × (file ≡ file_bytes c.arms xs)) (sym same)
    (reads_lawful file (All-from_get_or (λ y. y < 256) file 0 (λ i l. b i)) c s)

-- one call of the writer
pub was_written : (arms : ℕ) (os : List Order) (memory out : List ℕ) (size end : ℕ) → Ok size ≡ length_of (file_of arms os)
    → end ≡ length (file_bytes arms os) → out ≡ file_bytes arms os ++ drop (length (file_bytes arms os)) memory
    → WasWritten (Ok end) (contents arms os) out
was_written arms os memory out size end w e m =
    let file = file_bytes arms os in
    let f : file_of arms os ≡ Ok file = grind (arith, nat_tests) in
    let l = ((writes_lawful (contents arms os)).1 file f).0 in
    let begun : take end out ≡ file = ap (take end) m ∙ take_at file (drop (length file) memory) end (sym e) in
    (l, ap says begun ∙ (reads_back (contents arms os) l).1)

-- a list is lawful if it has a file
pub lawful_file : (arms : ℕ) (os : List Order) (r : Bool) → r ≡ is_ok (file_of arms os) → IsTrue r ↔ IsLawful (contents arms os)
lawful_file arms os r e =
    let both = writes_lawful (contents arms os) in
    (λ h. (both.1 (file_bytes arms os) (grind (arith, nat_tests))).0, λ l. e ∙ ap is_ok (both.0 l))
