-- Wrappers are dropped.
use Rattle.std.proofs.Common.{MatchBool, All, ◌≡◌, ◌≢◌, AllPairs, ◌==◌, ℕ, suc, Bool, true, false, not, cond, List, []}
use Rattle.std.proofs.Common.{◌∷◌, length, filter, Option, Contains, inl, inr, refl, ◌∙◌, ap, subst, arith, replicate}
use Rattle.std.proofs.lemmas.List.{get_or-replicate, get_or_past}
use Rattle.std.proofs.lemmas.Bool.{cases_lt}
use Rattle.std.proofs.lemmas.List.Kept.{AllPairs-cons}
use Rattle.std.proofs.lemmas.List.Elements.{All-head, All-tail, All-cons}
use Rattle.std.specs.Map.Calls.{RetainsPairs}
use Rattle.std.specs.Int.{bit_at}
use Rattle.gz_names.specs.declared.numbers.Place.{Place}
use Rattle.gz_names.specs.declared.numbers.ZoneNo.{ZoneNo}
use Rattle.wrappers.specs.WrapperMaps.{list_at, KeptBy, DropsDead, AnswersBy, without_dead, AreSound}
use Rattle.wrappers.specs.declared.wrapper_maps.WrapperKey.{WrapperKey}
use Rattle.wrappers.proofs.Finding.{Contains-head, Contains-tail, Contains-cases}

-- what is kept was there
Contains-KeptBy : (ask : Place → Bool → Type 0) (es kept : List (WrapperKey × Place)) (e : WrapperKey × Place)
    → KeptBy ask es kept → Contains kept e → Contains es e
Contains-KeptBy ask [] kept e h there = subst (λ (es : List (WrapperKey × Place)). Contains es e) h there
Contains-KeptBy ask (d ∷ es) kept e (answer, rest, asked, h, f) there =
    by answer (rw f at there) (Contains-KeptBy ask es rest e h)
  where
    by : (b : Bool) → Contains (cond b rest (d ∷ rest)) e → (Contains rest e → Contains es e) → Contains (d ∷ es) e
    by true here later = Contains-tail d es e (later here)
    by false here later = elim (Contains-cases d rest e here) [
      | inl same ↦ subst (λ (x : WrapperKey × Place). Contains (d ∷ es) x) same (Contains-head d es)
      | inr there ↦ Contains-tail d es e (later there)
    ]

pub Contains-DropsDead : (bit : ℕ) (ask : Place → Bool → Type 0) (old new : List (WrapperKey × Place))
    (e : WrapperKey × Place) → DropsDead bit ask old new → Contains new e → Contains old e
Contains-DropsDead bit ask old new e h there = by (bit == 1) h
  where
    by : (b : Bool) → MatchBool b (KeptBy ask old new) (new ≡ old) → Contains old e
    by true kept = Contains-KeptBy ask old new e kept there
    by false same = subst (λ (es : List (WrapperKey × Place)). Contains es e) same there

-- all of what is kept
All-KeptBy : (P : WrapperKey × Place → Type 0) (ask : Place → Bool → Type 0) (es kept : List (WrapperKey × Place))
    → KeptBy ask es kept → All P es → All P kept
All-KeptBy P ask [] kept h all = rw h all
All-KeptBy P ask (d ∷ es) kept (answer, rest, asked, h, f) all =
    rw f (by answer (All-KeptBy P ask es rest h (All-tail P d es all)))
  where
    by : (b : Bool) → All P rest → All P (cond b rest (d ∷ rest))
    by true r = r
    by false r = All-cons P d rest (All-head P d es all) r

AllPairs-KeptBy : (ask : Place → Bool → Type 0) (es kept : List (WrapperKey × Place)) → KeptBy ask es kept
    → AllPairs (λ d e. d.0 ≢ e.0) es → AllPairs (λ d e. d.0 ≢ e.0) kept
AllPairs-KeptBy ask [] kept h apart = rw h apart
AllPairs-KeptBy ask (d ∷ es) kept (answer, rest, asked, h, f) apart =
    rw f (by answer (AllPairs-KeptBy ask es rest h
    (λ i j x less within. apart (suc i) (suc j) x (omega arith) (omega arith))))
  where
    by : (b : Bool) → AllPairs (λ d e. d.0 ≢ e.0) rest → AllPairs (λ d e. d.0 ≢ e.0) (cond b rest (d ∷ rest))
    by true r = r
    by false r = AllPairs-cons (λ (x y : WrapperKey × Place). x.0 ≢ y.0) d rest
        (All-KeptBy (λ x. d.0 ≢ x.0) ask es rest h (λ k x less. apart 0 (suc k) x (omega arith) (omega arith))) r

AllPairs-DropsDead : (bit : ℕ) (ask : Place → Bool → Type 0) (old new : List (WrapperKey × Place))
    → DropsDead bit ask old new → AllPairs (λ d e. d.0 ≢ e.0) old → AllPairs (λ d e. d.0 ≢ e.0) new
AllPairs-DropsDead bit ask old new h apart = by (bit == 1) h
  where
    by : (b : Bool) → MatchBool b (KeptBy ask old new) (new ≡ old) → AllPairs (λ d e. d.0 ≢ e.0) new
    by true kept = AllPairs-KeptBy ask old new kept apart
    by false same = rw same apart

-- what always holds, without the dead
pub AreSound-DropsDead : (lists fewer : List (List (WrapperKey × Place))) (homes : List (Option ZoneNo)) (word : ℕ)
    (ask : Place → Bool → Type 0) → AreSound lists homes → length fewer ≡ 64
    → ((z : ℕ) → DropsDead (bit_at word z) ask (list_at lists z) (list_at fewer z)) → AreSound fewer homes
AreSound-DropsDead lists fewer homes word ask h zones dropped = record {
  zones = zones;
  comps = h.comps;
  at_home = λ z e there.
      h.at_home z e (Contains-DropsDead (bit_at word z) ask (list_at lists z) (list_at fewer z) e (dropped z) there);
  distinct = λ z. AllPairs-DropsDead (bit_at word z) ask (list_at lists z) (list_at fewer z) (dropped z) (h.distinct z);
}

-- where the answers are those of a test, what is kept is a filter
filter-KeptBy : (ask : Place → Bool → Type 0) (test : Place → Bool) → AnswersBy ask test
    → (es kept : List (WrapperKey × Place)) → KeptBy ask es kept → kept ≡ filter (λ e. not (test e.1)) es
filter-KeptBy ask test says [] kept h = h
filter-KeptBy ask test says (d ∷ es) kept (answer, rest, asked, h, f) =
    f ∙ by answer (test d.1) (says d.1 answer asked) (filter-KeptBy ask test says es rest h)
  where
    by : (a b : Bool) → a ≡ b → rest ≡ filter (λ e. not (test e.1)) es
        → cond a rest (d ∷ rest) ≡ cond (not b) (d ∷ filter (λ e. not (test e.1)) es) (filter (λ e. not (test e.1)) es)
    by true true e r = r
    by false false e r = ap (λ es. d ∷ es) r
    by true false e r = absurd (cc)
    by false true e r = absurd (cc)

pub without_dead-DropsDead : (bit : ℕ) (ask : Place → Bool → Type 0) (test : Place → Bool)
    (old new : List (WrapperKey × Place)) → AnswersBy ask test → DropsDead bit ask old new
    → new ≡ without_dead bit test old
without_dead-DropsDead bit ask test old new says h = by (bit == 1) h
  where
    by : (b : Bool) → MatchBool b (KeptBy ask old new) (new ≡ old) → new ≡ cond b (filter (λ e. not (test e.1)) old) old
    by true kept = filter-KeptBy ask test says old new kept
    by false same = same

-- what a map's `retain` keeps, where its closure answers the contrary and leaves each place as it was
pub KeptBy-RetainsPairs : {F : Type 0} (T : F → WrapperKey → Place → Bool → Place → F → Type 0) (ask : Place → Bool
    → Type 0) (f : F) → ((k : WrapperKey) (p : Place) (b : Bool) (q : Place) (g : F) → T f k p b q g
    → ask p (not b) × (q ≡ p) × (g ≡ f)) → (es kept : List (WrapperKey × Place)) → RetainsPairs T f es kept
    → KeptBy ask es kept
KeptBy-RetainsPairs T ask f says [] kept h = h
KeptBy-RetainsPairs T ask f says (e ∷ es) kept (b, q, g, rest, called, h, same) =
    let s = says e.0 e.1 b q g called in
    let later = KeptBy-RetainsPairs T ask f says es rest (rw s.2 at h) in
    (not b, rest, s.0, later, same ∙ (ap (λ p. cond b ((e.0, p) ∷ rest) rest) s.1 ∙ by b))
  where
    by : (b : Bool) → cond b (e ∷ rest) rest ≡ cond (not b) rest (e ∷ rest)
    by true = refl
    by false = refl

-- in empty lists there is nothing
list_at-none : (lists : List (List (WrapperKey × Place))) → lists ≡ replicate 64 [] → (z : ℕ) → list_at lists z ≡ []
list_at-none lists none z = ap (λ ls. list_at ls z) none ∙ elim (cases_lt z 64) [
  | inl lt ↦ get_or-replicate 64 z [] [] lt
  | inr le ↦ get_or_past (replicate 64 []) z [] le
]

Contains-none : (lists : List (List (WrapperKey × Place))) → lists ≡ replicate 64 []
    → (z : ℕ) (e : WrapperKey × Place) → Contains (list_at lists z) e → ⊥
Contains-none lists none z e h =
    let here = subst (λ (es : List (WrapperKey × Place)). Contains es e) (list_at-none lists none z) h in
    omega (arith, here.1)

pub AreSound-none : (lists : List (List (WrapperKey × Place))) (homes : List (Option ZoneNo)) → lists ≡ replicate 64 []
    → length homes ≡ 256 → AreSound lists homes
AreSound-none lists homes none comps = record {
  zones = ap length none;
  comps = comps;
  at_home = λ z e h. absurd (Contains-none lists none z e h);
  distinct = λ z. rw (list_at-none lists none z) (λ i j d less within. omega arith);
}
