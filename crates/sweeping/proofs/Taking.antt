-- The lowest arena of a list, and whether one is left.
use Rattle.std.proofs.Common.{◌≡◌, ◌≢◌, ℕ, ◌+◌, ◌<◌, ◌≤◌, List, [], ◌∷◌, length, get_or, drop, eqb, IsTrue, Option}
use Rattle.std.proofs.Common.{None, IsSome, if◌then◌else◌, refl, ap, sym, ◌∙◌, subst, arith, length-drop}
use Rattle.std.proofs.lemmas.Bool.{eqb-true, eq-eqb}
use Rattle.std.proofs.lemmas.List.{drop_more, drop_all, drop-map, length-map}
use native.Mathlib.Decide.{ℕ_discrete}
use mathlib.Core.Logic.{dite}
use Rattle.cell_bits.specs.declared.jobs.Job.{Job}
use Rattle.cell_bits.specs.declared.jobs.Taken.{Taken}
use Rattle.sweeping.specs.ArenasOut.{Ascend, TakesLowest, flown_by, outs_of, swept, white_of}
use Rattle.sweeping.proofs.Jobs.{first_flown, lowest_flown, rest_flown}

-- none is left behind the last
pub drained : {X : Type 0} (xs : List X) (n m : ℕ) → n ≤ length xs → m ≡ length xs → (IsTrue (eqb n m) → drop n xs ≡ [])
    × (drop n xs ≡ [] → IsTrue (eqb n m))
drained xs n m le e = (
  λ t. (let same : n ≡ m = eqb-true n m t in drop_all n xs (omega arith)),
  λ none. eq-eqb n m (let gone : length (drop n xs) ≡ 0 = ap length none in let long = length-drop n xs in
      omega (arith, gone, long, le, e)),
)

pub drained_none : (jobs left : List Job) (n m : ℕ) → n ≤ length jobs → m ≡ length jobs → left ≡ drop n jobs
    → IsTrue (eqb n m) → (a : ℕ) → flown_by left a ≡ None
drained_none jobs left n m le e is t a = ap (λ (js : List Job). flown_by js a) (is ∙ (drained jobs n m le e).0 t)

pub drained_outs : (jobs left : List Job) (n m : ℕ) → n ≤ length jobs → m ≡ length jobs → left ≡ drop n jobs
    → (IsTrue (eqb n m) → outs_of left ≡ []) × (outs_of left ≡ [] → IsTrue (eqb n m))
drained_outs jobs left n m le e is =
    let long : length (outs_of jobs) ≡ length jobs = length-map jobs swept in
    let both = drained (outs_of jobs) n m (omega (arith, long, le)) (e ∙ sym long) in
    let same : outs_of left ≡ drop n (outs_of jobs) = ap outs_of is ∙ sym (drop-map swept n jobs) in
    (λ t. same ∙ both.0 t, λ none. both.1 (sym same ∙ none))

-- one is left
pub some_left : {X : Type 0} (xs : List X) (n : ℕ) → n ≤ length xs → drop n xs ≢ [] → n < length xs
some_left xs n le some = dite (ℕ_discrete n (length xs)) (λ e. absurd (some (drop_all n xs (omega (arith, e)))))
    (λ ne. omega (arith, le, ne))

pub some_outs : (jobs left : List Job) (n : ℕ) → n ≤ length jobs → left ≡ drop n jobs → outs_of left ≢ []
    → n < length jobs
some_outs jobs left n le is some = some_left jobs n le (λ none. some (ap outs_of (is ∙ none)))

-- main takes the first of its jobs in
pub takes_first : (items left : List Job) (n : ℕ) (d : Job) (freed : ℕ) → n < length items → left ≡ drop n items
    → d ≡ get_or items n d → Ascend (outs_of left) → freed ≡ white_of d
    → TakesLowest (outs_of left) (outs_of (drop (n + 1) items)) (flown_by left) (flown_by (drop (n + 1) items))
    (record { freed = freed; bits = d.bits })
takes_first items left n d freed lt is at up white_is =
    let cut : left ≡ d ∷ drop (n + 1) items = is ∙ drop_more items n d lt
    ∙ ap (λ (j : Job). j ∷ drop (n + 1) items) (sym at) in
    let more : Ascend (outs_of (d ∷ drop (n + 1) items)) = subst (λ (js : List Job). Ascend (outs_of js)) cut up in
    record {
      arena = d.arena;
      first = ap outs_of cut ∙ ap (λ (w : ℕ). let out : ℕ × ℕ = (d.arena, w) in out ∷ outs_of (drop (n + 1) items))
          (sym white_is);
      bits = ap (λ (js : List Job). flown_by js d.arena) cut ∙ first_flown d (drop (n + 1) items);
      lowest = λ a some. lowest_flown d (drop (n + 1) items) a more
          (subst (λ (js : List Job). IsSome (flown_by js a)) cut some);
      others = λ a. subst (λ (js : List Job). flown_by (drop (n + 1) items) a
          ≡ (if eqb a d.arena then None else flown_by js a)) (sym cut) (rest_flown d (drop (n + 1) items) more a);
    }

-- the rest ascends
pub rest_ascends : (items left : List Job) (n : ℕ) (d : Job) → n < length items → left ≡ drop n items
    → d ≡ get_or items n d → Ascend (outs_of left) → Ascend (outs_of (drop (n + 1) items))
rest_ascends items left n d lt is at up =
    let cut : left ≡ d ∷ drop (n + 1) items = is ∙ drop_more items n d lt
    ∙ ap (λ (j : Job). j ∷ drop (n + 1) items) (sym at) in
    let more : Ascend (outs_of (d ∷ drop (n + 1) items)) = subst (λ (js : List Job). Ascend (outs_of js)) cut up in
    more.1
