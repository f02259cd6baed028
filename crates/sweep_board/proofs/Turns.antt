-- A step of one seat on the words of one arena keeps the rule, where those words and the seat's new view fit.
use Rattle.std.proofs.Common.{◌≡◌, ◌≢◌, ℕ, ◌+◌, ◌*◌, ◌<◌, ◌≤◌, ◌⊎◌, Bool, true, false, eqb, List, length, get_or, set}
use Rattle.std.proofs.Common.{sym, refl, ap, ◌∙◌, subst, inl, ⊎_elim, arith, get_or-set_other, eq-eqb, ne_eqb, bit_or}
use Rattle.std.proofs.Common.{All}
use Rattle.std.proofs.lemmas.List.{set-get_or}
use Rattle.std.proofs.lemmas.List.Elements.{All-weaker}
use mathlib.Core.Logic.{dite}
use mathlib.Core.Option.{Option, some}
use native.Mathlib.Decide.{ℕ_discrete}
use lib.ListN.{get_elem?}
use Rattle.atomic_table.specs.Table.{State}
use Rattle.atomic_table.proofs.Lists.{at_set}
use Rattle.cell_bits.specs.declared.jobs.Job.{Job}
use Rattle.sweep_board.specs.declared.view.Role.TheVariants.{Main}
use Rattle.sweep_board.specs.declared.view.Stage.{Stage}
use Rattle.sweep_board.specs.declared.view.Stage.TheVariants.{Free, Claimed, LoadedBlack, LoadedBoth, StoredFreed}
use Rattle.sweep_board.specs.declared.view.View.{View}
use Rattle.cell_bits.specs.Jobs.{job_at}
use Rattle.sweep_board.specs.Rule.{state_at, black_at, gob_at, freed_at, weight, total, helper_weight, claim_of}
use Rattle.sweep_board.specs.Rule.{mask_at, sweeps_of, IsWoken, StageRule, ArenaRule, SeatRule, MainRule, BoardRule}
use Rattle.sweep_board.proofs.Totals.{total-set, total-at, total-two}
use Rattle.sweep_board.proofs.Sweeps.{times}

-- the words of arena a are the same
pub record Same (old new : List ℕ) (a : ℕ) : Type 0 where
  pub state : state_at new a ≡ state_at old a
  pub black : black_at new a ≡ black_at old a
  pub gob : gob_at new a ≡ gob_at old a
  pub freed : freed_at new a ≡ freed_at old a

-- what a step owes that changes view v into w, and the words, of which only arena i's may differ
pub record Turn (jobs : List Job) (old new : List ℕ) (i : ℕ) (v w : View) : Type 0 where
  pub long : length new ≡ length old
  pub away : (a : ℕ) → a ≢ i → Same old new a
  pub arena : ArenaRule (job_at jobs i) (state_at new i) (black_at new i) (gob_at new i) (freed_at new i)
  pub up : state_at old i ≤ state_at new i
  pub claim : claim_of i w.stage + weight (eqb (state_at old i) 1) ≡ claim_of i v.stage
      + weight (eqb (state_at new i) 1)
  pub claims : (a : ℕ) → a ≢ i → claim_of a w.stage ≡ claim_of a v.stage
  pub sweep : sweeps_of i w + weight (eqb (state_at old i) 2) ≡ sweeps_of i v + weight (eqb (state_at new i) 2)
  pub sweeps : (a : ℕ) → a ≢ i → sweeps_of a w ≡ sweeps_of a v
  pub freed : (freed_at new i ≡ freed_at old i) ⊎ (0 < claim_of i v.stage)
  pub fits : SeatRule jobs new w
  pub role : w.role ≡ v.role
  pub helpers : w.helpers ≡ v.helpers
  pub masks : (a : ℕ) → a ≢ i → mask_at w.woken a ≡ mask_at v.woken a
  pub mask : v.role ≡ Main → black_at old i ≡ bit_or (job_at jobs i).bits.black (mask_at v.woken i)
      → black_at new i ≡ bit_or (job_at jobs i).bits.black (mask_at w.woken i)
  pub black : (black_at new i ≡ black_at old i) ⊎ (v.role ≡ Main)

same_arena : (j : Job) (a b c d a' b' c' d' : ℕ) → a' ≡ a → b' ≡ b → c' ≡ c → d' ≡ d → ArenaRule j a b c d
    → ArenaRule j a' b' c' d'
same_arena j a b c d a' b' c' d' p q r t f = record {
  low = subst (λ z. z ≤ 2) (sym p) f.low;
  black-is = subst (λ z. IsWoken j.bits z) (sym q) f.black-is;
  gob-is = r ∙
      f.gob-is;
  untouched = λ h. t ∙ f.untouched (sym p ∙ h);
  freed-is = λ h. t ∙ f.freed-is (sym p ∙ h);
}

pub weight_le : (b : Bool) → weight b ≤ 1
weight_le true = omega arith
weight_le false = omega arith

pub self_claim : (k : ℕ) → weight (eqb k k) ≡ 1
self_claim k = ap weight (eq-eqb k k refl)

pub other_claim : (i a : ℕ) → a ≢ i → weight (eqb i a) ≡ 0
other_claim i a ne = ap weight (ne_eqb i a (λ e. ne (sym e)))

-- the arena of a claim is claimed
pub is_claimed : (jobs : List Job) (s : State (Unit {0}) View) (i id : ℕ) (v : View) → BoardRule jobs s
    → get_elem? s.views id ≡ some v → i < length jobs → claim_of i v.stage ≡ 1 → state_at s.words i ≡ 1
is_claimed jobs s i id v k at lt one = dite (ℕ_discrete (state_at s.words i) 1) (λ e. e)
    (λ ne. let t = total-at (λ x. claim_of i x.stage) s.views id v at in let c = k.claims i lt in
    let z : weight (eqb (state_at s.words i) 1) ≡ 0 = ap weight (ne_eqb (state_at s.words i) 1 ne) in
    absurd (omega arith))

-- writing a word of arena i changes no other arena
pub elsewhere : (words : List ℕ) (i c n : ℕ) → 4 * i ≤ c → c < 4 * i + 4 → (a : ℕ) → a ≢ i
    → Same words (set words c n) a
elsewhere words i c n lo hi a ne = record {
  state = get_or-set_other words c (4 * a) n 0 (λ e. ne (omega arith));
  black = get_or-set_other words c (4 * a + 1) n 0 (λ e. ne (omega arith));
  gob = get_or-set_other words c (4 * a + 2) n 0 (λ e. ne (omega arith));
  freed = get_or-set_other words c (4 * a + 3) n 0 (λ e. ne (omega arith));
}

-- state words never fall
module _ (old new : List ℕ) (i : ℕ) (away : (a : ℕ) → a ≢ i → Same old new a) (up : state_at old i ≤ state_at new i)
  where
    raised : (a : ℕ) → state_at old a ≤ state_at new a
    raised a = dite (ℕ_discrete a i)
        (λ e. subst (λ z. state_at old z ≤ state_at new z) (sym e) up)
        (λ ne. let s = (away a ne).state in omega arith)

    stays_done : state_at new i ≤ 2 → (a : ℕ) → state_at old a ≡ 2 → state_at new a ≡ 2
    stays_done low a two = dite (ℕ_discrete a i)
        (λ e. subst (λ z. state_at old z ≡ 2 → state_at new z ≡ 2) (sym e) (λ h. omega arith) two)
        (λ ne. (away a ne).state ∙ two)

    -- so what was noted stays true
    pub passed_on : (xs : List ℕ) → All (λ a. 0 < state_at old a) xs → All (λ a. 0 < state_at new a) xs
    passed_on xs h = All-weaker (λ a. 0 < state_at old a) (λ a. 0 < state_at new a) (λ a was. let r = raised a in
        omega arith) xs h

    pub done_on : state_at new i ≤ 2 → (xs : List ℕ) → All (λ a. state_at old a ≡ 2) xs
        → All (λ a. state_at new a ≡ 2) xs
    done_on low xs h = All-weaker (λ a. state_at old a ≡ 2) (λ a. state_at new a ≡ 2) (stays_done low) xs h

module _ (jobs : List Job) (s : State (Unit {0}) View) (new : List ℕ) (i id : ℕ) (v w : View) (k : BoardRule jobs s)
    (at : get_elem? s.views id ≡ some v) (lt : i < length jobs) (t : Turn jobs s.words new i v w) where
  -- another seat's claim keeps its arena's freed word from change
  keeps_freed : (other a : ℕ) (u : View) → other ≢ id → get_elem? s.views other ≡ some u → 0 < claim_of a u.stage
      → freed_at new a ≡ freed_at s.words a
  keeps_freed other a u ne there has = dite (ℕ_discrete a i)
      (λ e. subst (λ z. 0 < claim_of z u.stage → freed_at new z ≡ freed_at s.words z) (sym e)
      (λ has'. ⊎_elim (λ same. same)
      (λ mine. let two = total-two (λ x. claim_of i x.stage) s.views id other v u ne at there in let one =
      k.claims i lt in let le = weight_le (eqb (state_at s.words i) 1) in absurd (omega arith))
      t.freed)
      has)
      (λ away. (t.away a away).freed)

  keeps_stage : (other : ℕ) (u : View) (stage : Stage) → u.stage ≡ stage → other ≢ id → get_elem? s.views other ≡ some u
      → StageRule jobs s.words stage → StageRule jobs new stage
  keeps_stage other u Free is ne there f = tt
  keeps_stage other u (Claimed a) is ne there f = f
  keeps_stage other u (LoadedBlack a b) is ne there f = f
  keeps_stage other u (LoadedBoth a b g) is ne there f = f
  keeps_stage other u (StoredFreed a) is ne there f =
      let one : claim_of a u.stage ≡ 1 = ap (claim_of a) is ∙ self_claim a in
      (f.0, keeps_freed other a u ne there (omega arith) ∙ f.1)

  keeps_seat : (other : ℕ) (u : View) → other ≢ id → get_elem? s.views other ≡ some u → SeatRule jobs new u
  keeps_seat other u ne there = let f = k.seats other u there in record {
    stage = keeps_stage other u u.stage refl ne there f.stage;
    idle = f.idle;
    passed = passed_on s.words new i t.away t.up u.passed f.passed;
    finished = done_on s.words new i t.away t.up t.arena.low u.finished f.finished;
    taken = done_on s.words new i t.away t.up t.arena.low u.taken f.taken;
    spent = f.spent;
  }

  helpers_same : total (λ x. helper_weight x.role) (set s.views id w) ≡ total (λ x. helper_weight x.role) s.views
  helpers_same = let r = total-set (λ x. helper_weight x.role) s.views id v w at in let h = ap helper_weight t.role in
      omega arith

  main_same : v.role ≡ Main → MainRule jobs new (set s.views id w) id w
  main_same is = let f = k.mains id v at is in record {
    first = f.first;
    counts = helpers_same ∙ f.counts ∙ sym t.helpers;
    woken = λ a lt'. dite (ℕ_discrete a i)
        (λ e. subst (λ z. black_at new z ≡ bit_or (job_at jobs z).bits.black (mask_at w.woken z)) (sym e)
        (t.mask is (f.woken i lt)))
        (λ ne. (t.away a ne).black ∙ f.woken a lt' ∙ ap (bit_or (job_at jobs a).bits.black) (sym (t.masks a ne)));
  }

  main_else : (other : ℕ) (u : View) → other ≢ id → get_elem? s.views other ≡ some u → u.role ≡ Main
      → MainRule jobs new (set s.views id w) other u
  main_else other u ne there is = let f = k.mains other u there is in record {
    first = f.first;
    counts = helpers_same ∙ f.counts;
    woken = λ a lt'. dite (ℕ_discrete a i)
        (λ e. subst (λ z. black_at s.words z ≡ bit_or (job_at jobs z).bits.black (mask_at u.woken z)
        → black_at new z ≡ bit_or (job_at jobs z).bits.black (mask_at u.woken z)) (sym e)
        (λ h. ⊎_elim (λ same. same ∙ h) (λ me. let g = k.mains id v at me in absurd (ne (f.first ∙ sym g.first)))
        t.black)
        (f.woken a lt'))
        (λ away. (t.away a away).black ∙ f.woken a lt');
  }

  claims_kept : (a : ℕ) → a < length jobs → total (λ x. claim_of a x.stage) (set s.views id w)
      ≡ weight (eqb (state_at new a) 1)
  claims_kept a lt' = let r = total-set (λ x. claim_of a x.stage) s.views id v w at in let was = k.claims a lt' in
      dite (ℕ_discrete a i)
      (λ e. subst (λ z. total (λ x. claim_of z x.stage) (set s.views id w) + claim_of z v.stage
      ≡ total (λ x. claim_of z x.stage) s.views + claim_of z w.stage → total (λ x. claim_of z x.stage) s.views
      ≡ weight (eqb (state_at s.words z) 1) → total (λ x. claim_of z x.stage) (set s.views id w)
      ≡ weight (eqb (state_at new z) 1)) (sym e)
      (λ r' was'. let c = t.claim in omega arith) r was)
      (λ ne. let c = t.claims a ne in let st = ap (λ (n : ℕ). weight (eqb n 1)) ((t.away a ne).state) in omega arith)

  sweeps_kept : (a : ℕ) → a < length jobs → total (sweeps_of a) (set s.views id w) ≡ weight (eqb (state_at new a) 2)
  sweeps_kept a lt' =
      let r = total-set (sweeps_of a) s.views id v w at in
      let was = k.sweeps a lt' in
      dite (ℕ_discrete a i)
      (λ e. subst (λ z. total (sweeps_of z) (set s.views id w) + sweeps_of z v ≡ total (sweeps_of z) s.views
      + sweeps_of z w
      → total (sweeps_of z) s.views ≡ weight (eqb (state_at s.words z) 2) → total (sweeps_of z) (set s.views id w) ≡
      weight (eqb (state_at new z) 2)) (sym e)
      (λ r' was'. let c = t.sweep in omega arith) r was)
      (λ ne. let c = t.sweeps a ne in let st = ap (λ (n : ℕ). weight (eqb n 2)) ((t.away a ne).state) in omega arith)

  -- the step keeps the rule
  pub turned : (homes : List (Option (Unit {0})))
      → BoardRule jobs record { words = new; homes = homes; views = set s.views id w }
  turned homes = record {
    sized = t.long ∙ k.sized;
    arenas = λ a lt'. dite (ℕ_discrete a i)
        (λ e. subst (λ z. ArenaRule (job_at jobs z) (state_at new z) (black_at new z) (gob_at new z) (freed_at new z))
        (sym e) t.arena)
        (λ ne. let q = t.away a ne in same_arena (job_at jobs a) _ _ _ _ _ _ _ _ q.state q.black q.gob q.freed
        (k.arenas a lt'));
    claims = claims_kept;
    sweeps = sweeps_kept;
    seats = λ other u there. ⊎_elim (λ h. subst (λ x. SeatRule jobs new x) h.1 t.fits) (λ h. keeps_seat other u h.0 h.1)
        (at_set s.views id other w u there);
    mains = λ other u there is. ⊎_elim
        (λ h. subst (λ (z : ℕ × View). MainRule jobs new (set s.views id w) z.0 z.1) (λ p. (sym h.0 p, h.1 p))
        (main_same (sym t.role ∙ ap (λ (x : View). x.role) h.1 ∙ is)))
        (λ h. main_else other u h.0 h.1 is)
        (at_set s.views id other w u there);
  }

-- a step that changes no word
module _ (jobs : List Job) (s : State (Unit {0}) View) (i id : ℕ) (v w : View) (k : BoardRule jobs s)
    (at : get_elem? s.views id ≡ some v) (lt : i < length jobs) where
  pub still : ((a : ℕ) → claim_of a w.stage ≡ claim_of a v.stage) → SeatRule jobs s.words w → w.role ≡ v.role →
      w.helpers ≡ v.helpers → w.woken ≡ v.woken → w.swept ≡ v.swept
      → Turn jobs s.words s.words i v w
  still same fits r n o swept = record {
    long = refl;
    away = λ a ne. record { state = refl; black = refl; gob = refl; freed = refl };
    arena = k.arenas i lt;
    up = omega arith;
    claim = ap (λ (n : ℕ). n + weight (eqb (state_at s.words i) 1)) (same i);
    claims = λ a ne. same a;
    sweep = ap (λ (ks : List ℕ). times i ks + weight (eqb (state_at s.words i) 2)) swept;
    sweeps = λ a ne. ap (times a) swept;
    freed = inl refl;
    fits = fits;
    role = r;
    helpers = n;
    masks = λ a ne. ap (λ (ps : List (ℕ × ℕ)). mask_at ps a) o;
    mask = λ is was. was ∙ ap (λ (ps : List (ℕ × ℕ)). bit_or (job_at jobs i).bits.black (mask_at ps i)) (sym o);
    black = inl refl;
  }

  -- a load, which leaves each word as it found it
  pub loaded : (c : ℕ) (homes : List (Option (Unit {0}))) → Turn jobs s.words s.words i v w
      → BoardRule jobs record { words = set s.words c (get_or s.words c 0); homes = homes; views = set s.views id w }
  loaded c homes t = subst (λ words. BoardRule jobs record { words = words; homes = homes; views = set s.views id w })
      (sym (set-get_or s.words c 0)) (turned jobs s s.words i id v w k at lt t homes)
