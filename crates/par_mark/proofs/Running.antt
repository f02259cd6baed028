-- A caller's run.
use Rattle.std.proofs.Common.{◌≡◌, ℕ, ◌+◌, ◌-◌, ◌<◌, ◌≤◌, Bool, true, false, List, [], ◌∷◌, ◌++◌, length, Option}
use Rattle.std.proofs.Common.{sym, refl, ap, ◌∙◌, subst, arith, All, append-nil, vec_capacity}
use Rattle.std.proofs.lemmas.List.Elements.{All-nil, All-same}
use Rattle.crossbeam_queue.specs.Passes.{view}
use Rattle.mark_words.specs.declared.marks.Seat.{Seat}
use Rattle.mark_words.specs.declared.view.MarkView.{MarkView}
use Rattle.mark_words.specs.Sums.{weigh, times}
use Rattle.mark_words.specs.Rule.{bit_of}
use Rattle.mark_words.specs.Seats.{view_of}
use Rattle.mark_words.specs.Views.{logs_with}
use Rattle.par_mark.specs.declared.donations.QueueView.{QueueView}
use Rattle.par_mark.specs.declared.caller.Caller.{Caller}
use Rattle.par_mark.specs.declared.lists.Lists.{Lists}
use Rattle.par_mark.specs.Donations.{moves_with}
use Rattle.mark_ahead.specs.Edges.{out}
use Rattle.par_mark.specs.Accounts.{Accounts, HasRoom}
use Rattle.par_mark.specs.Lists.{AreAsLarge, tries_of, tries_room, won_of, outside_of}
use Rattle.par_mark.specs.Callers.{IsOpen, IsReady, HasRun, own_log, own_moves}
use Rattle.par_mark.specs.States.{state_of}
use Rattle.par_mark.specs.Tries.{IsDonated, kept, given, HasGrown, HasTurned, TakenWasPut, done}
use Rattle.par_mark.proofs.Accounting.{gave}
use Rattle.par_mark.proofs.Scanning.{weigh-one}

module _ (edge : ℕ × ℕ → ℕ → Option (ℕ × ℕ)) (marking : ℕ × ℕ → Bool) (P : ℕ × ℕ → Type 0) where
  -- books in which nothing was done yet
  pub opened : (tries outside : List (ℕ × ℕ)) (v : MarkView) (d : QueueView) → outside ≡ [] → v.won ≡ []
      → v.known ≡ [] → d.put ≡ [] → d.taken ≡ [] → All P tries → Accounts edge marking P tries [] [] tries outside v d
  opened tries outside v d o w k p t all = record {
    balance = λ h. let a : weigh h outside ≡ 0 = ap (weigh h) o in
        let b : weigh (out edge h) v.won ≡ 0 = ap (weigh (out edge h)) w in
        let c : weigh h v.known ≡ 0 = ap (weigh h) k in let e : weigh h d.put ≡ 0 = ap (weigh h) p in
        let f : weigh h d.taken ≡ 0 = ap (weigh h) t in omega arith;
    taken = λ h. let f : weigh h d.taken ≡ 0 = ap (weigh h) t in omega arith;
    unscanned_won = λ h. omega arith;
    won_known = λ h. let b : weigh h v.won ≡ 0 = ap (weigh h) w in omega arith;
    once = λ q. let b : times q v.won ≡ 0 = ap (times q) w in omega arith;
    fresh = All-same (λ (q : ℕ × ℕ). bit_of v.first q ≡ 0) v.won [] w (All-nil (λ (q : ℕ × ℕ). bit_of v.first q ≡ 0));
    inside = All-same (λ (q : ℕ × ℕ). marking q ≡ true) v.won [] w (All-nil (λ (q : ℕ × ℕ). marking q ≡ true));
    tried_inside = All-same (λ (q : ℕ × ℕ). marking q ≡ true) v.known [] k (All-nil (λ (q : ℕ × ℕ). marking q ≡ true));
    beyond = All-same (λ (q : ℕ × ℕ). marking q ≡ false) outside [] o (All-nil (λ (q : ℕ × ℕ). marking q ≡ false));
    listed = All-nil P;
    tries_listed = all;
    won_listed = All-same P v.won [] w (All-nil P);
  }

  pub starts : (m : Caller) → IsReady edge marking P m → HasRun edge marking P m m
  starts m r = record {
    accounts = opened (tries_of m.lists) (outside_of m.lists) (view_of m.seat) (view m.pass) r.outside_empty r.no_won
        r.no_known r.no_put r.no_taken r.listed;
    logs_are = r.new_logs ∙ (λ i. record { won = sym r.no_won i; tried = sym r.no_known i } ∷ []);
    moves_are = r.no_moves ∙ (λ i. record { given = sym r.no_put i; taken = sym r.no_taken i } ∷ []);
    none_left = r.won_empty;
    room = record { tries = refl; won = refl; outside = refl };
    parts_is = refl;
    queue_parts = refl;
  }

  -- a turn that a caller made by itself, and what it donated
  own_turned : (o o' : List (ℕ × ℕ)) (v v' : MarkView) (d d' : QueueView) → HasGrown o v d o' v' d'
      → v.logs ≡ own_log v ∷ [] → v'.logs ≡ own_log v' ∷ []
  own_turned o o' v v' d d' g is =
      g.logs_are ∙ ap (logs_with g.won g.tried) is
      ∙ (λ i. record { won = sym g.won_is i; tried = sym g.tried_is i } ∷ [])

  own_moved : (o o' : List (ℕ × ℕ)) (v v' : MarkView) (d d' : QueueView) → HasGrown o v d o' v' d'
      → d.moves ≡ own_moves d ∷ [] → d'.moves ≡ own_moves d' ∷ []
  own_moved o o' v v' d d' g is =
      let given : d.put ++ [] ≡ d'.put = append-nil d.put ∙ sym g.put_is in
      g.moves_are ∙ ap (moves_with [] g.taken) is
      ∙ (λ i. record { given = given i; taken = sym g.taken_is i } ∷ [])

  own_donated : (tries tries' : List (ℕ × ℕ)) (d d' : QueueView) → IsDonated tries d tries' d'
      → d.moves ≡ own_moves d ∷ [] → d'.moves ≡ own_moves d' ∷ []
  own_donated tries tries' d d' (kept e f) is =
      subst (λ (x : QueueView). x.moves ≡ own_moves x ∷ []) (sym f) is
  own_donated tries tries' d d' (given p e f) is =
      subst (λ (x : QueueView). x.moves ≡ own_moves x ∷ []) (sym f)
      (ap (moves_with (p ∷ []) []) is
      ∙ (λ i. record { given = d.put ++ p ∷ []; taken = append-nil d.taken i } ∷ []))

  -- one turn more
  pub turned_on : (m old new : Caller) (n : ℕ) → HasRun edge marking P m old
      → HasTurned edge marking P n (state_of old.lists (view_of old.seat) (view old.pass))
      (state_of new.lists (view_of new.seat) (view new.pass)) → AreAsLarge old.lists new.lists
      → HasRun edge marking P m new
  turned_on m old new n r t room = record {
    accounts = t.accounts (tries_of m.lists) r.accounts;
    logs_are = own_turned _ _ _ _ _ _ t.moved.grown r.logs_are;
    moves_are = own_moved _ _ _ _ _ _ t.moved.grown r.moves_are;
    none_left = t.none_left;
    room = record {
      tries = room.tries ∙ r.room.tries;
      won = room.won ∙ r.room.won;
      outside = room.outside ∙ r.room.outside;
    };
    parts_is = t.moved.parts_is ∙ r.parts_is;
    queue_parts = t.moved.queue_parts ∙ r.queue_parts;
  }

  pub donated_parts : (tries tries' : List (ℕ × ℕ)) (d d' : QueueView) → IsDonated tries d tries' d'
      → d'.parts ≡ d.parts
  donated_parts tries tries' d d' (kept e f) = ap (λ (x : QueueView). x.parts) f
  donated_parts tries tries' d d' (given p e f) = ap (λ (x : QueueView). x.parts) f

  -- and what it gave away
  pub donated_on : (m old new : Caller) → HasRun edge marking P m old
      → IsDonated (tries_of old.lists) (view old.pass) (tries_of new.lists) (view new.pass)
      → new.seat ≡ old.seat → won_of new.lists ≡ won_of old.lists → outside_of new.lists ≡ outside_of old.lists
      → AreAsLarge old.lists new.lists → HasRun edge marking P m new
  donated_on m old new r g seat won outside room =
      let same : view_of new.seat ≡ view_of old.seat = ap (λ (x : Seat). view_of x) seat in record {
        accounts = subst (λ (x : List (ℕ × ℕ) × MarkView). Accounts edge marking P (tries_of m.lists) [] []
            (tries_of new.lists) x.0 x.1 (view new.pass)) (λ i. (sym outside i, sym same i))
            (gave edge marking P (tries_of m.lists) (tries_of old.lists) (tries_of new.lists) (outside_of old.lists)
            (view_of old.seat) (view old.pass) (view new.pass) g r.accounts);
        logs_are = subst (λ (x : MarkView). x.logs ≡ own_log x ∷ []) (sym same) r.logs_are;
        moves_are = own_donated _ _ (view old.pass) (view new.pass) g r.moves_are;
        none_left = won ∙ r.none_left;
        room = record {
          tries = room.tries ∙ r.room.tries;
          won = room.won ∙ r.room.won;
          outside = room.outside ∙ r.room.outside;
        };
        parts_is = ap (λ (x : MarkView). x.parts) same ∙ r.parts_is;
        queue_parts = donated_parts _ _ (view old.pass) (view new.pass) g ∙ r.queue_parts;
      }

  -- what was done has room
  pub within : (firsts tries outside : List (ℕ × ℕ)) (v : MarkView) (d : QueueView) (most : ℕ)
      → Accounts edge marking P firsts [] [] tries outside v d → TakenWasPut d
      → HasRoom edge marking P (weigh (λ _. 1) firsts) most
      → done v outside + weigh (λ _. 1) tries ≤ most
  within firsts tries outside v d most a t has = let b = a.balance (λ _. 1) in let u = t (λ _. 1) in
      let r = has v.won a.once a.won_listed in omega arith

  pub outside_within : (outside : List (ℕ × ℕ)) (v : MarkView) → length outside ≤ done v outside
  outside_within outside v = let l = weigh-one outside in omega arith

  -- main's books as turns go on
  pub still_room : (now : Lists) (v w : MarkView) (d f : QueueView) (old : Lists) → (b : IsOpen edge marking P old v d)
      → Accounts edge marking P b.firsts [] [] (tries_of now) (outside_of now) w f → TakenWasPut f
      → AreAsLarge old now → (length (outside_of now) < vec_capacity now.outside)
      × HasRoom edge marking P (weigh (λ _. 1) b.firsts) (tries_room now)
  still_room now v w d f old b a t large =
      let r = within b.firsts (tries_of now) (outside_of now) w f b.most a t b.room in
      let o = outside_within (outside_of now) w in
      let l1 = large.outside in
      let l2 = large.tries in
      let m1 = b.outside_most in
      let m2 = b.tries_most in (omega arith, λ ps once all. let h = b.room ps once all in omega arith)

  pub less_left : (n : ℕ) (outside outside' firsts tries' : List (ℕ × ℕ)) (v w : MarkView)
      (d : QueueView) (most room : ℕ) → 0 < n → done v outside + n ≤ done w outside'
      → Accounts edge marking P firsts [] [] tries' outside' w d → TakenWasPut d
      → HasRoom edge marking P (weigh (λ _. 1) firsts) most → most < room
      → room - done w outside' < room - done v outside
  less_left n outside outside' firsts tries' v w d most room some' more a t has lt =
      let r = within firsts tries' outside' w d most a t has in omega arith
