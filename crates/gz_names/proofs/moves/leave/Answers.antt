use Rattle.std.proofs.Common.{◌≡◌, ◌-◌, ◌*◌, ◌%◌, ◌^◌, ◌∷◌, ◌++◌, [], ℕ, List, Some, None, length, get_or, slice_set}
use Rattle.std.proofs.Common.{slice_get, bit_or, ap, sym, ◌∙◌, subst, arith}
use Rattle.std.proofs.lemmas.Nat.{one_shl}
use Rattle.std.proofs.lemmas.Option.{none-some, slice_get-get_or, slice_get_within, get_or_from_slice_get}
use Rattle.gz_names.specs.declared.moves.Leaving.{Leaving}
use Rattle.gz_names.proofs.Moving.{left-set, left-pushed}
use Rattle.gz_names.proofs.moves.leave.Goals as goal
use Rattle.gz_names.proofs.moves.leave.Goals.{in_default-via-in-Some+else-last-arena, in_default-via-in_default}

pub returns-in-Some-clause-ok : goal.returns-in-Some-clause-ok
returns-in-Some-clause-ok c =
    let v = c.args.arenas.now in
    let one = c.index_mut.result.now in
    let end = c.len-end.result - 1 in
    let at : slice_get v.items (length v.items - 1) ≡ Some c.in-Some.last.now =
    subst (λ (l : List Leaving). slice_get l (length l - 1) ≡ Some c.in-Some.last.now) c.deref.ensures.value
    (sym c.in-Some.ensures.value) in
    let within = slice_get_within v.items (length v.items - 1) c.in-Some.last.now at in
    let last : end ≡ length v.items - 1 = omega (arith, v.ok, c.len-end.ensures) in
    let same : one ≡ c.in-Some.last.now =
    c.index_mut.ensures.value ∙ ap (λ k. get_or v.items k one) last
    ∙ get_or_from_slice_get v.items (length v.items - 1) c.in-Some.last.now one at in
    let bit : 1 * 2 ^ c.slot.result % 18446744073709551616 ≡ 2 ^ c.args.place.1 =
    one_shl c.slot.result 64 c.slot.ensures.below ∙ ap (λ n. 2 ^ n) c.slot.ensures.value in
    let with : ℕ → Leaving = λ b. record { arena = one.arena; slots = bit_or one.slots b; first = one.first } in
    ap (λ b. slice_set v.items end (with b)) bit
    ∙ left-set v.items c.args.place c.args.number end one (omega (arith, within, last)) (sym c.index_mut.ensures.value)
    (ap (λ (a : Leaving). a.arena) same ∙ c.if-last-arena.true ∙ c.arena.ensures)

pub returns-in_ok-push-in_default-clause-ok : goal.returns-in_ok-push-in_default-clause-ok
returns-in_ok-push-in_default-clause-ok c =
    let v = c.args.arenas.now in
    let place = c.args.place in
    let bit : 1 * 2 ^ c.slot.result % 18446744073709551616 ≡ 2 ^ place.1 =
    one_shl c.slot.result 64 c.slot.ensures.below ∙ ap (λ n. 2 ^ n) c.slot.ensures.value in
    let with : ℕ → ℕ → Leaving = λ a b. record { arena = a; slots = b; first = c.args.number } in
    c.in_ok-push-in_default.ensures.items
    ∙ ap (λ a. v.items ++ with a (1 * 2 ^ c.slot.result % 18446744073709551616) ∷ []) c.arena-in_default.ensures
    ∙ ap (λ b. v.items ++ with place.0 b ∷ []) bit
    ∙ left-pushed v.items place c.args.number (λ k long d same.
    (let end : length v.items - 1 ≡ k = omega (arith, long) in
    let item : slice_get v.items (length v.items - 1) ≡ Some (get_or v.items k d) =
    ap (slice_get v.items) end ∙ slice_get-get_or v.items k d (omega (arith, long)) in
    elim c.in_default.branch [
      | in_default-via-in-Some+else-last-arena w ↦
          (let at : slice_get v.items (length v.items - 1) ≡ Some w.in-Some.last.now =
          subst (λ (l : List Leaving). slice_get l (length l - 1) ≡ Some w.in-Some.last.now) c.deref.ensures.value
          (sym w.in-Some.ensures.value) in
          let last = get_or_from_slice_get v.items k w.in-Some.last.now d
          (subst (λ n. slice_get v.items n ≡ Some w.in-Some.last.now) end at) in
          w.if-last-arena.false (sym (ap (λ (a : Leaving). a.arena) last) ∙ same ∙ sym w.arena.ensures))
      | in_default-via-in_default w ↦
          none-some (get_or v.items k d) (subst (λ (l : List Leaving). None ≡ slice_get l (length l - 1))
          c.deref.ensures.value w.in_default.ensures.value ∙ item)
    ]))
