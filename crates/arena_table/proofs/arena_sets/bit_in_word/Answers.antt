use Rattle.std.proofs.Common.{◌≡◌, ◌/◌, sym, get_or, subst, ◌<◌, ◌^◌}
use Rattle.arena_table.proofs.WordBits.{lowest-in_word, none-in_word}
use Rattle.arena_table.proofs.arena_sets.bit_in_word.Goals as goal

pub returns-then-rest-eq0-clause-lowest : goal.returns-then-rest-eq0-clause-lowest
returns-then-rest-eq0-clause-lowest c =
    let word : get_or c.args.words.now (c.args.from / 64) 0 ≡ c.in_ok-word.word.now =
    sym (c.in_ok-word.ensures.lookup.3.1 0) in
    λ other ge same _. none-in_word c.args.words.now c.args.from c.in_ok-word.word.now word c.if-rest-eq0.true other ge
    same

pub returns-clause-some : goal.returns-clause-some
returns-clause-some c =
    let word : get_or c.args.words.now (c.args.from / 64) 0 ≡ c.in_ok-word.word.now =
    sym (c.in_ok-word.ensures.lookup.3.1 0) in
    let fits = subst (λ w. w < 2 ^ 64) word (c.type_inv.words (c.args.from / 64)).fits in
    (lowest-in_word c.args.words.now c.args.from c.in_ok-word.word.now word fits c.if-rest-eq0.false).some

pub returns-clause-lowest : goal.returns-clause-lowest
returns-clause-lowest c =
    let word : get_or c.args.words.now (c.args.from / 64) 0 ≡ c.in_ok-word.word.now =
    sym (c.in_ok-word.ensures.lookup.3.1 0) in
    let fits = subst (λ w. w < 2 ^ 64) word (c.type_inv.words (c.args.from / 64)).fits in
    (lowest-in_word c.args.words.now c.args.from c.in_ok-word.word.now word fits c.if-rest-eq0.false).lowest

pub returns-clause-here : goal.returns-clause-here
returns-clause-here c =
    let word : get_or c.args.words.now (c.args.from / 64) 0 ≡ c.in_ok-word.word.now =
    sym (c.in_ok-word.ensures.lookup.3.1 0) in
    let fits = subst (λ w. w < 2 ^ 64) word (c.type_inv.words (c.args.from / 64)).fits in
    (lowest-in_word c.args.words.now c.args.from c.in_ok-word.word.now word fits c.if-rest-eq0.false).here
