-- The parts of a phase's paper: its title, then its orders by power and province.
use Rattle.std.proofs.Common.{◌≡◌, ℕ, List, [], ◌∷◌, ◌++◌, codes, nat_le, map, filter, flat_map, Option, Some, unwrap_or, refl, sym, ap, ap₂, ◌∙◌, append_assoc, arith}
use Rattle.std.specs.List.{AllByRecursion}
use Rattle.std.specs.Fmt.{decimal}
use Rattle.std.proofs.lemmas.Bool.Decides.{nat_tests}
use Rattle.std.proofs.lemmas.Grind.{flat_map-append}
use Rattle.dip_names.specs.declared.names.Unit.{Unit as AUnit}
use Rattle.dip_letters.specs.Lines.{IsLine}
use Rattle.dip_letters.proofs.LineLemmas.{line_again}
use Rattle.dip_map.specs.Boards.{Position}
use Rattle.dip_map.specs.Charts.{Chart, IsMap, powers, provs}
use Rattle.dip_map.specs.declared.boards.Phase.{Phase}
use Rattle.dip_map.specs.declared.boards.Season.{Season}
use Rattle.dip_map.specs.declared.boards.Season.TheVariants.{SpringMoves, SpringRetreats, FallMoves, FallRetreats, Winter}
use Rattle.dip_orders_placed.specs.declared.placed.PlacedOrder.{PlacedOrder}
use Rattle.dip_desk_state.specs.Records.{Public}
use Rattle.dip_reports.specs.Texts.{board_lines, game_line, phase_text}
use Rattle.dip_turn_phases.specs.declared.report.Report.{Report}
use Rattle.dip_turn_papers.specs.Papers.{account_text, by_province, centre_line, is_in, line_text, lines_by_power, paper_text}
use Rattle.dip_turn_papers.specs.declared.lines.PaperLine.{PaperLine}
use Rattle.dip_check_papers.specs.Placing.{placed_by, units_by_place}
use Rattle.dip_check_papers.specs.Printed.{first_line_of, title_words, unit_orders_at}
use Rattle.dip_check_papers.proofs.LineLemmas.{AreAll, all_both, lacks_by}
use Rattle.dip_check_papers.proofs.NameTexts.{number_all}
use Rattle.dip_check_papers.proofs.OrderLines.{unit_orders_again}
use Rattle.dip_check_papers.proofs.OrderTexts.{low_no_lf}
use Rattle.dip_check_papers.proofs.Placing.{flat_alike, placed_each, placed_map}
use Rattle.dip_check_papers.proofs.ReadAnywhere.{IsReadBack}

-- ---- the title

pub low_number : (n : ℕ) → AreAll (nat_le 32) (decimal n)
low_number n = number_all (nat_le 32) (λ d low. grind (arith, nat_tests)) n

pub low_both : (a b : List ℕ) → AreAll (nat_le 32) a → AreAll (nat_le 32) b → AreAll (nat_le 32) (a ++ b)
low_both a b one two = all_both (nat_le 32) a b one two

low_phase : (p : Phase) → AreAll (nat_le 32) (phase_text p)
unfolding phase_text
low_phase p = by p.season (decimal p.year) (low_number p.year)
  where
    by : (s : Season) (year : List ℕ) → AreAll (nat_le 32) year → AreAll (nat_le 32) (phase_text (record { year = p.year; season = s }))
    by SpringMoves year all = low_both (codes "S" ++ decimal p.year) (codes "M") (low_both (codes "S") (decimal p.year) refl (low_number p.year)) refl
    by SpringRetreats year all = low_both (codes "S" ++ decimal p.year) (codes "R") (low_both (codes "S") (decimal p.year) refl (low_number p.year)) refl
    by FallMoves year all = low_both (codes "F" ++ decimal p.year) (codes "M") (low_both (codes "F") (decimal p.year) refl (low_number p.year)) refl
    by FallRetreats year all = low_both (codes "F" ++ decimal p.year) (codes "R") (low_both (codes "F") (decimal p.year) refl (low_number p.year)) refl
    by Winter year all = low_both (codes "W" ++ decimal p.year) (codes "A") (low_both (codes "W") (decimal p.year) refl (low_number p.year)) refl

pub title_line : (n : ℕ) (phase : Phase) → IsLine (title_words n phase)
title_line n phase =
    lacks_by (nat_le 32) 10 low_no_lf (title_words n phase)
    (low_both (codes "PAPER " ++ decimal n ++ codes " ") (phase_text phase) (low_both (codes "PAPER " ++ decimal n) (codes " ") (low_both (codes "PAPER ") (decimal n) refl (low_number n)) refl) (low_phase phase))

-- what is after the orders
abbrev pub paper_rest : Chart → Report → Public → List ℕ
paper_rest m r p = flat_map (centre_line m) r.centres.items ++ (game_line m p ++ (board_lines m p.board ++ codes "END\n"))

pub paper_parts : (m : Chart) (r : Report) (p : Public) → paper_text m r p ≡ title_words p.papers r.phase ++ 10 ∷ (account_text m r.account ++ paper_rest m r p)
unfolding paper_text
paper_parts m r p = parts (title_words p.papers r.phase) (account_text m r.account) (flat_map (centre_line m) r.centres.items) (game_line m p) (board_lines m p.board) (codes "END\n")
  where
    parts : (t a c g b e : List ℕ) → (t ++ codes "\n") ++ a ++ c ++ g ++ b ++ e ≡ t ++ 10 ∷ (a ++ (c ++ (g ++ (b ++ e))))
    parts t a c g b e = simp append_assoc

pub after_title : (m : Chart) (r : Report) (p : Public) → first_line_of (paper_text m r p) ≡ (title_words p.papers r.phase, account_text m r.account ++ paper_rest m r p)
after_title m r p =
    let more = account_text m r.account ++ paper_rest m r p in
    ap first_line_of (paper_parts m r p)
    ∙ ap (λ (o : Option (List ℕ × List ℕ)). unwrap_or o (title_words p.papers r.phase ++ 10 ∷ more, [])) (line_again (title_words p.papers r.phase) more (title_line p.papers r.phase))

-- ---- the orders by power and province

pub flat_flat : {A B C : Type 0} (f : B → List C) (g : A → List B) (xs : List A) → flat_map (λ x. flat_map f (g x)) xs ≡ flat_map f (flat_map g xs)
flat_flat f g [] = refl
flat_flat f g (x ∷ xs) = ap (λ t. flat_map f (g x) ++ t) (flat_flat f g xs) ∙ sym (flat_map-append f (g x) (flat_map g xs))

pub lines_placed : (m : Chart) (ls : List PaperLine) → lines_by_power m ls ≡ flat_map (line_text m) (placed_by (λ (l : PaperLine). l.placed.unit) m ls)
lines_placed m ls =
    flat_alike (by_province m ls) (λ r. flat_map (line_text m) (flat_map (λ p. filter (is_in r p) ls) (provs m))) (powers m)
    (λ r. flat_flat (line_text m) (λ p. filter (is_in r p) ls) (provs m))
    ∙ flat_flat (line_text m) (λ r. flat_map (λ p. filter (is_in r p) ls) (provs m)) (powers m)

of_mapped : {A B : Type 0} (P : B → Type 0) (f : A → B) (xs : List A) → AllByRecursion P (map f xs) → AllByRecursion (λ x. P (f x)) xs
of_mapped P f [] all = tt
of_mapped P f (x ∷ xs) all = (all.0, of_mapped P f xs all.1)

pub map_map : {A B C : Type 0} (g : B → C) (f : A → B) (xs : List A) → map g (map f xs) ≡ map (λ x. g (f x)) xs
map_map g f [] = refl
map_map g f (x ∷ xs) = ap (λ t. g (f x) ∷ t) (map_map g f xs)

-- the lines of orders, each of which is read back, are read, by power and province
pub lines_read : (m : Chart) → IsMap m → (b : Position) (ls : List PaperLine) (rest : List ℕ) → AllByRecursion (IsReadBack m b) (map (λ (l : PaperLine). l.placed) ls)
    → unit_orders_at m b (units_by_place m (map (λ (o : PlacedOrder). o.unit) (map (λ (l : PaperLine). l.placed) ls))) (lines_by_power m ls ++ rest)
    ≡ Some (placed_by (λ (o : PlacedOrder). o.unit) m (map (λ (l : PaperLine). l.placed) ls))
lines_read m laws b ls rest back =
    let put = placed_by (λ (l : PaperLine). l.placed.unit) m ls in
    let units : units_by_place m (map (λ (o : PlacedOrder). o.unit) (map (λ (l : PaperLine). l.placed) ls)) ≡ map (λ (l : PaperLine). l.placed.unit) put =
    ap (units_by_place m) (map_map (λ (o : PlacedOrder). o.unit) (λ (l : PaperLine). l.placed) ls) ∙ sym (placed_map (λ (l : PaperLine). l.placed.unit) (λ (u : AUnit). u) m ls) in
    ap₂ (λ us text. unit_orders_at m b us (text ++ rest)) units (lines_placed m ls)
    ∙ unit_orders_again m laws b put rest (placed_each (λ (l : PaperLine). l.placed.unit) m ls (λ (l : PaperLine). IsReadBack m b l.placed) (of_mapped (IsReadBack m b) (λ (l : PaperLine). l.placed) ls back))
    ∙ ap Some (placed_map (λ (l : PaperLine). l.placed) (λ (o : PlacedOrder). o.unit) m ls)
