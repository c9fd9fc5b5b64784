use Rattle.std.proofs.Common.{length, ◌≡◌, true, false, bytes_eq, codes, ap, subst, sym, ◌∙◌, rules}
use Rattle.dip_desk_state.specs.Rows as rows
use Rattle.dip_store_tables.specs.Columns.{ArePowers}
use Rattle.dip_store_tables.proofs.VoteLemmas.{named_powers, never_empty}
use Rattle.dip_store_tables.proofs.votes.read_vote.Goals as goal

pub returns-clause-none : goal.returns-clause-none
returns-clause-none c said =
    let text = c.args.text.now in
    let not_no : bytes_eq text (codes "NO") ≡ false = search rules in
    let not_yes : bytes_eq text (codes "YES") ≡ false = search rules in
    let never : ArePowers c.args.map.now (rows.lines c.in_ok-names.names.items) → ⊥ = search rules in
    never (subst (ArePowers c.args.map.now) (sym c.in_ok-names.ensures)
    (named_powers c.args.map.now c.facts.ensures text (λ e. let bad : true ≡ false = sym (ap (λ t. bytes_eq t (codes "NO")) e) ∙ not_no in cc)
    (λ e. let bad : true ≡ false = sym (ap (λ t. bytes_eq t (codes "YES")) e) ∙ not_yes in cc) said))

pub returns-then-is_empty-clause-none : goal.returns-then-is_empty-clause-none
returns-then-is_empty-clause-none c said =
    let none : length c.args.text.now ≡ 0 = search rules in
    never_empty c.args.map.now c.facts.ensures c.args.text.now none said
