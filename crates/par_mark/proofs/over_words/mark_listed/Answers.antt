use Rattle.std.proofs.Common.{◌≡◌, ℕ, ◌<◌, ◌≤◌, Bool, true, false, List, [], length, ap, sym, ◌∙◌, subst, arith}
use Rattle.std.proofs.Common.{if◌then◌else◌}
use Rattle.mark_words.specs.Seats.{first_of, view_of}
use Rattle.mark_ahead.specs.Blackening.{HasFound}
use Rattle.par_mark.specs.Marking.{Sought}
use Rattle.par_mark.specs.Turned.{AreWords, turned_places}
use Rattle.par_mark.proofs.Ending.{found}
use Rattle.par_mark.proofs.Reaching.{reached_here}
use Rattle.par_mark.proofs.over_words.mark_listed.Goals as goal

pub mark-requires-clause-lists : goal.mark-requires-clause-lists
mark-requires-clause-lists g c κs within = λ q s. c.requires.lists q
    (subst (λ (l : List ℕ). Sought (g.H.Graph.edge c.args.heap.now) (g.H.Graph.marking c.args.heap.now) l
    c.args.from.now q) c.in_ok-marks.ensures.words s)

-- there are no more words before than after
all_or_none : (lists : Bool) (words : List ℕ) → length (if lists then words else []) ≤ length words
all_or_none true words = omega arith
all_or_none false words = omega arith

pub turned_cells-requires : goal.turned_cells-requires
turned_cells-requires g c =
    let before = ap length (c.deref-2.ensures.value ∙ c.in_ok-before.ensures) in
    let copied = all_or_none c.args.lists_won c.deref.result.now in
    let words = ap length (c.deref.ensures.value ∙ sym c.in_ok-marks.ensures.words) in
    let after = ap length c.deref-3.ensures.value ∙ c.close-words.ensures.sized in
    omega (arith, before, copied, words, after)

pub returns-clause-found : goal.returns-clause-found
returns-clause-found g c =
    let edge = g.H.Graph.edge c.args.heap.now in
    let marking = g.H.Graph.marking c.args.heap.now in
    let from : List (ℕ × ℕ) = c.args.from.now in
    let first : List ℕ = first_of c.in_ok-marks.marks in
    let last : List ℕ = c.close-words.result.items in
    let words_are : first ≡ c.args.words.items = c.in_ok-marks.ensures.words in
    let after_is : c.deref-3.result.now ≡ last = c.deref-3.ensures.value in
    subst (λ (l : List ℕ). HasFound edge marking l from (c.args.lists_won ≡ true) last c.in_ok-won.won.items
    c.in_ok-outside.outside.items) words_are
    (found edge marking first from last c.in_ok-won.won.items c.in_ok-outside.outside.items (record {
      view = view_of c.mark.new.seat;
      inside = λ q r. subst (λ (l : List ℕ). q.0 < length l) (sym words_are) (c.requires.words q
          (reached_here edge marking first from (g.H.Graph.has c.args.heap.now) c.requires.present c.requires.targets q
          r));
      marked = c.in_ok-outside.ensures.marked;
      sized = c.close-words.ensures.sized;
      bits = c.close-words.ensures.bits;
    }) c.args.lists_won (λ listed.
    let before_is : c.deref-2.result.now ≡ first = c.deref-2.ensures.value ∙ c.in_ok-before.ensures
    ∙ ap (λ (lists : Bool). if lists then c.deref.result.now else []) listed
    ∙ c.deref.ensures.value ∙ sym words_are in record {
      are_words = subst (λ (x : List ℕ × List ℕ). AreWords x.0 (length x.0) × AreWords x.1 (length x.0))
          (λ i. (before_is i, after_is i)) c.in_ok-won.ensures.words;
      cells_are = c.in_ok-won.ensures.cells
          ∙ (λ i. turned_places (before_is i) (after_is i) (length (before_is i)));
    }))

pub returns-clause-unlisted : goal.returns-clause-unlisted
returns-clause-unlisted g c = λ unlisted.
    let none : c.deref-2.result.now ≡ [] = c.deref-2.ensures.value ∙ c.in_ok-before.ensures
    ∙ ap (λ (lists : Bool). if lists then c.deref.result.now else []) unlisted in
    c.in_ok-won.ensures.cells ∙ ap (λ (l : List ℕ). turned_places l c.deref-3.result.now (length l)) none
