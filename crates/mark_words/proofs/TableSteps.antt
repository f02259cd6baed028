-- Each step keeps the rule.
use Rattle.std.proofs.Common.{◌≡◌, ◌≢◌, ℕ, zero, suc, ◌+◌, ◌-◌, ◌^◌, ◌<◌, List}
use Rattle.std.proofs.Common.{[], ◌∷◌, ◌++◌, length, get_or, set, sym, refl, ap, ◌∙◌, subst, ⊎_elim, arith}
use Rattle.std.proofs.Common.{length-set, get_or-set_same, get_or-set_other, bit_or, bit_and, min}
use Rattle.std.proofs.Common.{All, w64}
use Rattle.std.specs.Int.{bit_at, bit_not}
use Rattle.std.proofs.lemmas.List.Elements.{All-nil, All-append, All-weaker, All-get_or, All-from_get_or}
use Rattle.std.proofs.lemmas.List.{set-get_or}
use Rattle.std.proofs.lemmas.Nat.Bits.{bit_at_above, bit_at_and, bit_at_not, bit_at_or, bit_at-lt, bit_at-zero}
use Rattle.std.proofs.lemmas.Nat.Bits.{same_from_bits}
use mathlib.Core.Logic.{dite}
use mathlib.Core.Option.{none, some, some-injective, some-ne-none}
use native.Mathlib.Decide.{ℕ_discrete}
use lib.ListN.{get_elem?}
use Rattle.atomic_table.specs.Table.{State, Me, step, keeps, stepped, opening, Allows, Splits, Joins}
use Rattle.atomic_table.proofs.Lists.{at_set, at_snoc, set_again}
use Rattle.mark_words.specs.declared.view.MarkLog.{MarkLog}
use Rattle.mark_words.specs.declared.view.MarkView.{MarkView}
use Rattle.mark_words.specs.Sums.{only, times, total, whole}
use Rattle.mark_words.specs.Rule.{bit_of, IsBlackIn, SeatRule, MarkRule}
use Rattle.mark_words.specs.Places.{places_of}
use Rattle.mark_words.specs.Views.{first_view, new_log, with_less, split_off, joined, spent, with_tried}
use Rattle.mark_words.specs.Steps.{HasTried, KnowsAll, looks, tries, settles}
use Rattle.mark_words.proofs.Counts.{total-set, total-snoc, total-at, total-alone, weigh-append}
use Rattle.mark_words.proofs.Places.{all_below, below-zero, each_below, times-away, times-inside, times-past}

abbrev Sat : Type 0
Sat = Me (Unit {0}) MarkView

-- a step that writes what it found and leaves the seat as it was changes nothing
unchanged : (s : State (Unit {0}) MarkView) (id : ℕ) (me : Sat) (a : ℕ) → get_elem? s.views id ≡ some me.0
    → stepped s a (get_or s.words a 0) id me.1 me.0 keeps ≡ s
unchanged s id me a at =
    λ i. record { words = set-get_or s.words a 0 i; homes = s.homes; views = set_again s.views id me.0 at i }

-- a seat may try the slots of a mask, of an arena that has a word
pub record MayTry (P : ℕ × ℕ → Type 0) (first : List ℕ) (me : Sat) (a m : ℕ) : Type 0 where
  pub inside : a < length first
  pub fits : m < 2 ^ 64
  pub listed : All P (places_of a m)
  pub some_part : 0 < me.0.parts
  pub first_is : me.0.first ≡ first

module _ (P : ℕ × ℕ → Type 0) (first : List ℕ) (slots id : ℕ) (me : Sat) (a m : ℕ) (t : MayTry P first me a m) where
  -- the slots that the word lacks
  abbrev lacked : ℕ → ℕ
  lacked n = bit_and m (bit_not w64 n)

  lacked_bit : (n i : ℕ) → n < 2 ^ 64 → i < 64 → bit_at (lacked n) i ≡ min (bit_at m i) (1 - bit_at n i)
  lacked_bit n i small low = bit_at_and m (bit_not w64 n) i
      ∙ ap (λ (b : ℕ). min (bit_at m i) b) (bit_at_not w64 n i small low)

  after : (s : State (Unit {0}) MarkView) → MarkRule P first s → get_elem? s.views id ≡ some me.0 → (w : MarkView)
      → w.parts ≡ me.0.parts
      → ((i : ℕ) → bit_at (bit_or (get_or s.words a 0) m) i + times (a, i) me.0.won
      ≡ bit_at (get_or s.words a 0) i + times (a, i) w.won)
      → ((p : ℕ × ℕ) → p.0 ≢ a → times p w.won ≡ times p me.0.won)
      → All P w.won
      → w.known ≡ me.0.known ++ places_of a m
      → MarkRule P first (stepped s a (bit_or (get_or s.words a 0) m) id me.1 w keeps)
  after s r at w parts here away won known =
      let ws : List ℕ = s.words in
      let n : ℕ = bit_or (get_or ws a 0) m in
      let ws' : List ℕ = set ws a n in
      let wide = r.sized in
      let now : get_or ws' a 0 ≡ n = get_or-set_same ws a n 0 (omega arith) in
      let old = r.seats id me.0 at in
      let still : (p : ℕ × ℕ) → IsBlackIn ws p → IsBlackIn ws' p = λ p h. dite (ℕ_discrete p.0 a)
      (λ e.
      let was : bit_at (get_or ws a 0) p.1 ≡ 1 = ap (λ (z : ℕ). bit_at (get_or ws z 0) p.1) (sym e) ∙ h in
      let is : bit_at (get_or ws' p.0 0) p.1 ≡ bit_at n p.1 = ap (λ (z : ℕ). bit_at (get_or ws' z 0) p.1) e
      ∙ ap (λ (z : ℕ). bit_at z p.1) now in
      let o = bit_at_or (get_or ws a 0) m p.1 in
      let l = bit_at-lt m p.1 in omega arith)
      (λ ne. ap (λ (z : ℕ). bit_at z p.1) (get_or-set_other ws a p.0 n 0 ne) ∙ h) in
      let mine : All (IsBlackIn ws') (places_of a m) = all_below (IsBlackIn ws') a m 64 (λ i low one.
      let o = bit_at_or (get_or ws a 0) m i in let l = bit_at-lt (get_or ws a 0) i in
      let is : bit_at (get_or ws' a 0) i ≡ bit_at n i = ap (λ (z : ℕ). bit_at z i) now in omega arith) in
      let Inside : ℕ × ℕ → Type 0 = λ p. p.0 < length first in
      let moved : (u : MarkView) → SeatRule P first ws u
      → SeatRule P first ws' u = λ u f. record {
        listed = f.listed;
        inside = f.inside;
        black = All-weaker (IsBlackIn ws) (IsBlackIn ws') still u.known f.black;
        idle = f.idle;
      } in
      let own : SeatRule P first ws' w = record {
        listed = won;
        inside = subst (All Inside) (sym known) (All-append Inside me.0.known (places_of a m) old.inside
            (all_below Inside a m 64 (λ i low one. t.inside)));
        black = subst (All (IsBlackIn ws')) (sym known) (All-append (IsBlackIn ws') me.0.known (places_of a m)
            (All-weaker (IsBlackIn ws) (IsBlackIn ws') still me.0.known old.black) mine);
        idle = λ none. absurd (omega arith);
      } in record {
        sized = length-set ws a n ∙ wide;
        bits = λ p lt'. let f : MarkView → ℕ = λ v. times p v.won in let t = total-set f s.views id me.0 w at in
            let was = r.bits p lt' in dite (ℕ_discrete p.0 a)
            (λ e. let h : bit_at n p.1 + times p me.0.won ≡ bit_at (get_or ws p.0 0) p.1 + times p w.won =
            subst (λ (z : ℕ). bit_at n p.1 + times (z, p.1) me.0.won ≡ bit_at (get_or ws z 0) p.1
            + times (z, p.1) w.won) (sym e) (here p.1) in
            let q : bit_at (get_or ws' p.0 0) p.1 ≡ bit_at n p.1 = ap (λ (z : ℕ). bit_at (get_or ws' z 0) p.1) e
            ∙ ap (λ (z : ℕ). bit_at z p.1) now in omega arith)
            (λ ne. let h = away p ne in let q : bit_at (get_or ws' p.0 0) p.1 ≡ bit_at (get_or ws p.0 0) p.1 =
            ap (λ (z : ℕ). bit_at z p.1) (get_or-set_other ws a p.0 n 0 ne) in omega arith);
        parts = (let t = total-set (λ (v : MarkView). v.parts) s.views id me.0 w at in let p = r.parts in omega arith);
        seats = λ other u there. ⊎_elim (λ h. subst (SeatRule P first ws') h.1 own)
            (λ h. moved u (r.seats other u h.1)) (at_set s.views id other w u there);
      }

  -- a slot that the word lacked was white at first, and this seat had not won it
  was_white : (s : State (Unit {0}) MarkView) → MarkRule P first s → get_elem? s.views id ≡ some me.0 → (i : ℕ)
      → bit_at (get_or s.words a 0) i ≡ 0 → (times (a, i) me.0.won ≡ 0) × (bit_of first (a, i) ≡ 0)
  was_white s r at i lack = let b = r.bits (a, i) t.inside in
      let u = total-at (λ (v : MarkView). times (a, i) v.won) s.views id me.0 at in ((omega arith), (omega arith))

  pub trying : Allows (MarkRule P first) slots id me a (λ n. bit_or n m) (tries (step slots a m 0 none) me)
  trying s r _ at small =
      let n : ℕ = get_or s.words a 0 in
      let old = r.seats id me.0 at in
      let won : List (ℕ × ℕ) = places_of a (lacked n) in
      let w : MarkView = with_tried me.0 (places_of a m) won in
      let white : (i : ℕ) → i < 64 → bit_at (lacked n) i ≡ 1 → bit_at n i ≡ 0 = λ i low one.
      let l = lacked_bit n i small low in let b = bit_at-lt n i in omega arith in
      let Unwon : ℕ × ℕ → Type 0 = λ p. times p me.0.won ≡ 0 in
      let White : ℕ × ℕ → Type 0 = λ p. bit_of me.0.first p ≡ 0 in
      let listed' : All P won = all_below P a (lacked n) 64 (λ i low one. each_below P a m 64 t.listed i low
      (let l = lacked_bit n i small low in let b = bit_at-lt m i in omega arith)) in (
        w,
        keeps,
        tt,
        after s r at w refl
            (λ i. let o = bit_at_or n m i in let x = bit_at-lt n i in let y = bit_at-lt m i in
            let u = weigh-append (only (a, i)) me.0.won won in
            dite (ℕ_discrete (64 - i) 0)
            (λ high. let p = times-past a (lacked n) 64 i (omega arith) in
            let z = bit_at_above m 64 i t.fits (omega arith) in omega arith)
            (λ low. let p = times-inside a (lacked n) 64 i (omega arith) in
            let l = lacked_bit n i small (omega arith) in omega arith))
            (λ q ne. let u = weigh-append (only q) me.0.won won in
            let z = times-away a (lacked n) 64 q ne in omega arith)
            (All-append P me.0.won won old.listed listed')
            refl,
        (
          refl,
          refl,
          record {
            view_is = refl;
            unwon = all_below Unwon a (lacked n) 64 (λ i low one. (was_white s r at i (white i low one)).0);
            white = all_below White a (lacked n) 64 (λ i low one. ap (λ (l : List ℕ). bit_of l (a, i)) t.first_is
                ∙ (was_white s r at i (white i low one)).1);
          },
        ),
      )

  -- a word that lacks none of the slots has them all
  covered : (n : ℕ) → n < 2 ^ 64 → lacked n ≡ 0 → bit_or n m ≡ n
  covered n small none' = same_from_bits (bit_or n m) n (λ i. let o = bit_at_or n m i in
      let x = bit_at-lt n i in let y = bit_at-lt m i in dite (ℕ_discrete (64 - i) 0)
      (λ high. let z = bit_at_above m 64 i t.fits (omega arith) in omega arith)
      (λ low. let l = lacked_bit n i small (omega arith) in
      let z : bit_at (lacked n) i ≡ 0 = ap (λ (k : ℕ). bit_at k i) none' ∙ bit_at-zero i in omega arith))

  pub looking : Allows (MarkRule P first) slots id me a (λ n. n) (looks m (step slots a 0 0 none) me)
  looking s r homed at small =
      let n : ℕ = get_or s.words a 0 in
      dite (ℕ_discrete (lacked n) 0)
      (λ none'. let u = trying s r homed at small in (
        u.0,
        u.1,
        u.2,
        subst (λ (k : ℕ). MarkRule P first (stepped s a k id me.1 u.0 u.1)) (covered n small none') u.3,
        (
          u.4.0,
          u.4.1,
          (λ _. subst (λ (won : List (ℕ × ℕ)). HasTried me.0 (places_of a m) won u.0)
              (ap (places_of a) none' ∙ below-zero a 64) u.4.2),
          (λ some'. absurd (some' none')),
        ),
      ))
      (λ some'. (
        me.0,
        keeps,
        tt,
        subst (MarkRule P first) (sym (unchanged s id me a at)) r,
        (refl, refl, (λ none'. absurd (some' none')), (λ _. refl)),
      ))

module _ (P : ℕ × ℕ → Type 0) (first : List ℕ) where
  fresh : (words firsts : List ℕ) (parts : ℕ) (logs : List MarkLog) → SeatRule P first words
      record { first = firsts; parts = parts; won = []; known = []; logs = logs }
  fresh words firsts parts logs = record {
    listed = All-nil P;
    inside = All-nil (λ (p : ℕ × ℕ). p.0 < length first);
    black = All-nil (IsBlackIn words);
    idle = λ _. refl;
  }

  sole : (x v : MarkView) (id : ℕ) → get_elem? (x ∷ []) id ≡ some v → x ≡ v
  sole x v zero e = some-injective x v e
  sole x v (suc id) e = absurd (some-ne-none v (sym e))

  before : (words pad : List ℕ) (a : ℕ) → a < length words → get_or (words ++ pad) a 0 ≡ get_or words a 0
  before [] pad a lt = absurd (omega arith)
  before (x ∷ xs) pad zero lt = refl
  before (x ∷ xs) pad (suc a) lt = before xs pad a (omega arith)

  one_more : (words : List ℕ) (n : ℕ) → length (words ++ n ∷ []) ≡ length words + 1
  one_more [] n = refl
  one_more (x ∷ xs) n = let r = one_more xs n in omega arith

  pub opens : (words : List ℕ) → words ≡ first ++ 0 ∷ [] → MarkRule P first (opening words [] (first_view first))
  opens words is = subst (λ (l : List ℕ). MarkRule P first (opening l [] (first_view first))) (sym is) record {
    sized = one_more first 0;
    bits = λ p lt. let b : bit_of (first ++ 0 ∷ []) p ≡ bit_of first p =
        ap (λ (z : ℕ). bit_at z p.1) (before first (0 ∷ []) p.0 lt) in omega arith;
    parts = omega arith;
    seats = λ id v there. subst (SeatRule P first (first ++ 0 ∷ [])) (sole (first_view first) v id there)
        (fresh (first ++ 0 ∷ []) first whole (new_log ∷ []));
  }

  pub splitting : (id : ℕ) (v : MarkView) → 1 < v.parts → Splits (MarkRule P first) id v (with_less v) (split_off v)
  splitting id v parts s r at = let old = r.seats id v at in let l : MarkView = with_less v in
      let new : MarkView = split_off v in record {
        sized = r.sized;
        bits = λ p lt. let f : MarkView → ℕ = λ u. times p u.won in let t = total-set f s.views id v l at in
            let u = total-snoc f (set s.views id l) new in let was = r.bits p lt in omega arith;
        parts = (let f : MarkView → ℕ = λ u. u.parts in let t = total-set f s.views id v l at in
            let u = total-snoc f (set s.views id l) new in let was = r.parts in omega arith);
        seats = λ other u there. ⊎_elim
            (λ in'. ⊎_elim (λ e. subst (SeatRule P first s.words) e.1
            record {
              listed = old.listed;
              inside = old.inside;
              black = old.black;
              idle = λ none. absurd (omega arith);
            }) (λ e. r.seats other u e.1) (at_set s.views id other l u in'))
            (λ e. subst (SeatRule P first s.words) e (fresh s.words v.first 1 (new_log ∷ [])))
            (at_snoc (set s.views id l) new u other there);
      }

  nothing : (ps : List (ℕ × ℕ)) → ps ≡ [] → (p : ℕ × ℕ) → times p ps ≡ 0
  nothing ps e p = ap (times p) e

  both_empty : (xs ys : List (ℕ × ℕ)) → xs ≡ [] → ys ≡ [] → xs ++ ys ≡ []
  both_empty xs ys a b = ap (λ (l : List (ℕ × ℕ)). l ++ ys) a ∙ b

  pub joining : (id other : ℕ) (v w : MarkView) → Joins (MarkRule P first) id v other w (joined v w) spent
  joining id other v w s r at apart there =
      let x : MarkView = joined v w in
      let was : get_elem? s.views other ≡ some w = ⊎_elim (λ e. absurd (apart e.0)) (λ e. e.1)
      (at_set s.views id other x w there) in
      let f = r.seats id v at in
      let g = r.seats other w was in
      let inside = λ (p : ℕ × ℕ). p.0 < length first in
      let mine : SeatRule P first s.words x = record {
        listed = All-append P v.won w.won f.listed g.listed;
        inside = All-append inside v.known w.known f.inside g.inside;
        black = All-append (IsBlackIn s.words) v.known w.known f.black g.black;
        idle = λ none. both_empty v.won w.won (f.idle (omega arith)) (g.idle (omega arith));
      } in record {
        sized = r.sized;
        bits = λ p lt. let h : MarkView → ℕ = λ u. times p u.won in let t = total-set h s.views id v x at in
            let u = total-set h (set s.views id x) other w spent there in let a = weigh-append (only p) v.won w.won in
            let b = r.bits p lt in omega arith;
        parts = (let h : MarkView → ℕ = λ u. u.parts in let t = total-set h s.views id v x at in
            let u = total-set h (set s.views id x) other w spent there in let b = r.parts in omega arith);
        seats = λ o u at'. ⊎_elim
            (λ e. subst (SeatRule P first s.words) e.1 (fresh s.words [] 0 []))
            (λ e. ⊎_elim (λ h. subst (SeatRule P first s.words) h.1 mine) (λ h. r.seats o u h.1)
            (at_set s.views id o x u e.1))
            (at_set (set s.views id x) other o spent u at');
      }

  -- a seat with all parts: all that was won was won by it
  pub alone : (s : State (Unit {0}) MarkView) → MarkRule P first s → (id : ℕ) (v : MarkView)
      → get_elem? s.views id ≡ some v → v.parts ≡ whole → (p : ℕ × ℕ)
      → total (λ u. times p u.won) s.views ≡ times p v.won
  alone s r id v at all p = total-alone (λ (u : MarkView). u.parts) (λ (u : MarkView). times p u.won) s.views id v
      (λ j u e none. nothing u.won ((r.seats j u e).idle none) p) at (r.parts ∙ sym all)

  all_both : (Q R : ℕ × ℕ → Type 0) (ps : List (ℕ × ℕ)) → All Q ps → All R ps → All (λ p. Q p × R p) ps
  all_both Q R ps q r = All-from_get_or (λ (p : ℕ × ℕ). Q p × R p) ps (0, 0)
      (λ i lt. (All-get_or Q ps i (0, 0) lt q, All-get_or R ps i (0, 0) lt r))

  knows : (s : State (Unit {0}) MarkView) → MarkRule P first s → (id : ℕ) (v : MarkView)
      → get_elem? s.views id ≡ some v → v.first ≡ first → v.parts ≡ whole → KnowsAll v
  knows s r id v at firsts all =
      let f = r.seats id v at in
      let inside = λ (p : ℕ × ℕ). p.0 < length first in
      let Here : ℕ × ℕ → Type 0 = λ p. inside p × IsBlackIn s.words p in
      All-weaker Here (λ (p : ℕ × ℕ). bit_of v.first p + times p v.won ≡ 1)
      (λ p h. let b = r.bits p h.0 in let on = h.1 in let a = alone s r id v at all p in
      let e : bit_of v.first p ≡ bit_of first p = ap (λ (l : List ℕ). bit_of l p) firsts in omega arith)
      v.known (all_both inside (IsBlackIn s.words) v.known f.inside f.black)

  pub settling : (slots id a : ℕ) (me : Sat) → me.0.first ≡ first
      → Allows (MarkRule P first) slots id me a (λ n. n) (settles (step slots a 0 0 none) me)
  settling slots id a me firsts s r _ at _ =
      let same = unchanged s id me a at in
      (me.0, keeps, tt, subst (MarkRule P first) (sym same) r, (refl, λ all. knows s r id me.0 at firsts all))
