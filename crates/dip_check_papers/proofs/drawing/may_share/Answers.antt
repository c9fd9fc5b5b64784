use Rattle.std.proofs.Common.{◌≡◌, ◌<◌, ◌==◌, length, nat_lt, true, false, sym, ◌∙◌, arith, rules}
use Rattle.std.specs.List.{AllByRecursion, list_all}
use Rattle.std.proofs.lemmas.Bool.{eqb-false, false≢true, lt-ltb, ltb-true}
use Rattle.dip_desk_games.specs.Drawing.{survives}
use Rattle.dip_desk_games.proofs.ListLemmas.{all_weaker}
use Rattle.dip_check_papers.proofs.Listed.{all_tested, tested_all}
use Rattle.dip_check_papers.proofs.drawing.may_share.Goals as goal

pub returns-clause-yes : goal.returns-clause-yes
returns-clause-yes c = λ yes.
    let m = c.args.map.now in
    let powers = c.args.powers.now in
    let some : (length powers == 0) ≡ false = search rules in
    let many : 0 < length powers = let differ = eqb-false (length powers) 0 some in omega (arith, differ) in
    let of : AllByRecursion (λ p. nat_lt p (length m.realms) ≡ true) powers =
    all_tested (λ p. nat_lt p (length m.realms)) powers (sym c.are_of.ensures ∙ c.if-not-are_of.false) in
    record {
      named = (
        all_weaker (λ p. nat_lt p (length m.realms) ≡ true) (λ p. p < length m.realms) powers (λ p is. ltb-true p (length m.realms) is) of,
        sym c.are_ascending.ensures ∙ c.if-not-are_ascending.false,
        many,
      );
      survive = all_tested (survives m c.args.board.now) powers (sym c.all_survive.ensures ∙ yes);
    }

pub returns-clause-no : goal.returns-clause-no
returns-clause-no c = λ no share.
    false≢true (sym no ∙ c.all_survive.ensures ∙ tested_all (survives c.args.map.now c.args.board.now) c.args.powers.now share.survive)

pub returns-then-not-are_of-clause-no : goal.returns-then-not-are_of-clause-no
returns-then-not-are_of-clause-no c = λ no share.
    let m = c.args.map.now in
    let powers = c.args.powers.now in
    let of : list_all (λ p. nat_lt p (length m.realms)) powers ≡ true =
    tested_all (λ p. nat_lt p (length m.realms)) powers
    (all_weaker (λ p. p < length m.realms) (λ p. nat_lt p (length m.realms) ≡ true) powers (λ p low. lt-ltb p (length m.realms) low) share.named.0) in
    false≢true (sym c.if-not-are_of.true ∙ c.are_of.ensures ∙ of)
