-- The due tick that the paper of a phase prints, after its last U.
use Rattle.std.proofs.Common.{◌≡◌, ◌≢◌, ◌==◌, ℕ, Bool, true, false, cond, List, [], ◌∷◌, ◌++◌, codes, not, map, flat_map, length, refl, sym, ◌∙◌, append_assoc, arith}
use Rattle.std.specs.List.{AllByRecursion}
use Rattle.std.specs.Char.{is_ascii_lowercase}
use Rattle.std.specs.Fmt.{decimal}
use Rattle.std.proofs.lemmas.Bool.Decides.{nat_tests}
use Rattle.dip_names.specs.declared.names.Kind.{Kind}
use Rattle.dip_names.specs.declared.names.Kind.TheVariants.{Army, Fleet}
use Rattle.dip_names.specs.declared.names.Unit.{Unit as AUnit}
use Rattle.dip_letters.specs.Lines.{Lacks}
use Rattle.dip_map.specs.Boards.{Position}
use Rattle.dip_map.specs.Charts.{Chart, IsMap, powers, province, realm}
use Rattle.dip_orders.specs.Texts.{kind_letter, place_text, unit_text}
use Rattle.dip_desk_state.specs.Records.{Public}
use Rattle.dip_reports.specs.Texts.{board_line, board_lines, by_province, centres, force_text, forces, game_line, intent_text, joined, listing, phase_text, terms_text, yes_or_no}
use Rattle.dip_desk_state.specs.Texts.{status_text}
use Rattle.dip_reports.specs.declared.board_lines.Force.{Force}
use Rattle.dip_turn_phases.specs.declared.report.Report.{Report}
use Rattle.dip_turn_papers.specs.Papers.{account_text, centre_line, paper_text, title}
use Rattle.dip_check_papers.proofs.LineLemmas.{AreAll, all_both, all_flat, lacks_by}
use Rattle.dip_check_papers.proofs.NameTexts.{code_all, name_all, number_all}
use Rattle.dip_check_papers.proofs.OrderTexts.{place_all}

-- a byte that is no U
abbrev pub is_no_u : ℕ → Bool
is_no_u b = not (b == 85)

small_no_u : (b : ℕ) → is_ascii_lowercase b ≡ true → is_no_u b ≡ true
small_no_u b h = grind (arith, nat_tests)

no_u : (b : ℕ) → is_no_u b ≡ true → b ≢ 85
no_u b h same = grind (arith, nat_tests)

number : (n : ℕ) → AreAll is_no_u (decimal n)
number n = number_all is_no_u (λ d low. grind (arith, nat_tests)) n

joined_all : (test : ℕ → Bool) (separator : List ℕ) (texts : List (List ℕ)) → AreAll test (codes "-") → AreAll test separator → AllByRecursion (AreAll test) texts → AreAll test (joined separator texts)
joined_all test separator [] none mark all = none
joined_all test separator (t ∷ ts) none mark all = all_both test t (flat_map (λ u. separator ++ u) ts) all.0 (rest ts all.1)
  where
    rest : (us : List (List ℕ)) → AllByRecursion (AreAll test) us → AreAll test (flat_map (λ u. separator ++ u) us)
    rest [] each = refl
    rest (u ∷ us) each = all_both test (separator ++ u) (flat_map (λ v. separator ++ v) us) (all_both test separator u mark each.0) (rest us each.1)

-- parts one after the other
abbrev joined_parts : List ℕ → List (List ℕ) → List ℕ
joined_parts first [] = first
joined_parts first (p ∷ ps) = joined_parts (first ++ p) ps

all_parts : (test : ℕ → Bool) (first : List ℕ) (parts : List (List ℕ)) → AreAll test first → AllByRecursion (AreAll test) parts → AreAll test (joined_parts first parts)
all_parts test first [] one each = one
all_parts test first (p ∷ ps) one each = all_parts test (first ++ p) ps (all_both test first p one each.0) each.1

-- and parts before a last one
abbrev before_last : List (List ℕ) → List ℕ → List ℕ
before_last [] last = last
before_last (p ∷ ps) last = p ++ before_last ps last

right_parts : (test : ℕ → Bool) (parts : List (List ℕ)) (last : List ℕ) → AllByRecursion (AreAll test) parts → AreAll test last → AreAll test (before_last parts last)
right_parts test [] last each one = one
right_parts test (p ∷ ps) last each one = all_both test p (before_last ps last) each.0 (right_parts test ps last each.1 one)

each_mapped : {A : Type 0} (P : List ℕ → Type 0) (f : A → List ℕ) (xs : List A) → ((x : A) → P (f x)) → AllByRecursion P (map f xs)
each_mapped P f [] all = tt
each_mapped P f (x ∷ xs) all = (all x, each_mapped P f xs all)

module _ (m : Chart) (laws : IsMap m) where
  letter_no_u : (k : Kind) → AreAll is_no_u (kind_letter k)
  letter_no_u Army = refl
  letter_no_u Fleet = refl

  unit_no_u : (u : AUnit) → AreAll is_no_u (unit_text m u)
  unfolding unit_text
  unit_no_u u = all_both is_no_u (kind_letter u.kind) (place_text m u.kind u.place) (letter_no_u u.kind) (place_all m laws is_no_u small_no_u refl u.kind u.place)

  force_no_u : (f : Force) → AreAll is_no_u (force_text m f)
  force_no_u f = all_both is_no_u (unit_text m f.unit) _ (unit_no_u f.unit) (star f.dislodged)
    where
      star : (b : Bool) → AreAll is_no_u (cond b (codes "*") [])
      star true = refl
      star false = refl

  listing_no_u : (name : List ℕ) (owned : List ℕ) (units : List Force) → AreAll is_no_u name → AreAll is_no_u (listing m name owned units)
  unfolding listing
  listing_no_u name owned units all =
      all_parts is_no_u name
      (codes " " ∷ decimal (length owned) ∷ codes "/" ∷ decimal (length units) ∷ codes ": " ∷ joined (codes ", ") (map (force_text m) units) ∷ codes " | "
      ∷ joined (codes " ") (map (λ p. (province m p).code) owned) ∷ codes "\n" ∷ [])
      all (
        refl,
        (
          number (length owned),
          (
            refl,
            (
              number (length units),
              (
                refl,
                (
                  joined_all is_no_u (codes ", ") (map (force_text m) units) refl refl (each_mapped (AreAll is_no_u) (force_text m) units force_no_u),
                  (
                    refl,
                    (joined_all is_no_u (codes " ") (map (λ p. (province m p).code) owned) refl refl (each_mapped (AreAll is_no_u) (λ p. (province m p).code) owned (λ p. code_all m laws is_no_u small_no_u p)), (refl, tt)),
                  ),
                ),
              ),
            ),
          ),
        ),
      )

  boards_no_u : (b : Position) → AreAll is_no_u (board_lines m b)
  unfolding board_lines board_line
  boards_no_u b = all_flat is_no_u (board_line m b) (powers m) (λ r. listing_no_u (realm m r).name (centres m b r) (by_province m (forces b r)) (name_all m laws is_no_u small_no_u r))

yes_no_u : (b : Bool) → AreAll is_no_u (yes_or_no b)
yes_no_u true = refl
yes_no_u false = refl

intent_no_u : (b : Bool) → AreAll is_no_u (intent_text b)
intent_no_u true = refl
intent_no_u false = refl

-- what is after the due tick and a space
abbrev pub due_tail : Chart → Public → List ℕ
due_tail m p =
    codes "PERIOD " ++ (decimal p.period ++ (codes " GREY " ++ (yes_or_no p.grey ++ (intent_text p.board.intent ++ (codes " PAPERS " ++ (decimal p.papers ++ (codes "\n" ++ (board_lines m p.board ++ codes "END\n"))))))))

abbrev pub due_head : Chart → Report → Public → List ℕ
due_head m r p =
    (title p.papers r.phase ++ (account_text m r.account ++ (flat_map (centre_line m) r.centres.items ++ (codes "GAME " ++ (p.game ++ (codes " " ++ (phase_text p.board.phase ++ (codes " " ++ status_text m p.status)))))))) ++ codes " D"

pub tail_no_u : (m : Chart) (p : Public) → IsMap m → Lacks 85 (codes "E " ++ (decimal p.due ++ 32 ∷ due_tail m p))
tail_no_u m p laws =
    lacks_by is_no_u 85 no_u (codes "E " ++ (decimal p.due ++ 32 ∷ due_tail m p))
    (right_parts is_no_u
    (codes "E " ∷ decimal p.due ∷ codes " PERIOD " ∷ decimal p.period ∷ codes " GREY " ∷ yes_or_no p.grey ∷ intent_text p.board.intent ∷ codes " PAPERS " ∷ decimal p.papers ∷ codes "\n" ∷ board_lines m p.board ∷ [])
    (codes "END\n")
    (refl, (number p.due, (refl, (number p.period, (refl, (yes_no_u p.grey, (intent_no_u p.board.intent, (refl, (number p.papers, (refl, (boards_no_u m laws p.board, tt))))))))))) refl)

parts_in_a_row : (t a c g nm s1 ph s2 st du due pe pd gr yn it pa pn nl b e : List ℕ)
    → t ++ a ++ c ++ (g ++ nm ++ s1 ++ ph ++ s2 ++ st ++ (du ++ due ++ pe ++ pd ++ gr ++ yn ++ it ++ pa ++ pn) ++ nl) ++ b ++ e
    ≡ (t ++ (a ++ (c ++ (g ++ (nm ++ (s1 ++ (ph ++ (s2 ++ st)))))))) ++ (du ++ (due ++ (pe ++ (pd ++ (gr ++ (yn ++ (it ++ (pa ++ (pn ++ (nl ++ (b ++ e)))))))))))
parts_in_a_row t a c g nm s1 ph s2 st du due pe pd gr yn it pa pn nl b e = simp append_assoc

pub due_in : (m : Chart) (r : Report) (p : Public) → paper_text m r p ≡ due_head m r p ++ 85 ∷ (codes "E " ++ (decimal p.due ++ 32 ∷ due_tail m p))
unfolding paper_text game_line terms_text
due_in m r p =
    parts_in_a_row (title p.papers r.phase) (account_text m r.account) (flat_map (centre_line m) r.centres.items) (codes "GAME ") p.game (codes " ") (phase_text p.board.phase) (codes " ") (status_text m p.status)
    (codes " DUE ") (decimal p.due) (codes " PERIOD ") (decimal p.period) (codes " GREY ") (yes_or_no p.grey) (intent_text p.board.intent) (codes " PAPERS ") (decimal p.papers) (codes "\n") (board_lines m p.board) (codes "END\n")
    ∙ sym (append_assoc
    (title p.papers r.phase ++ (account_text m r.account ++ (flat_map (centre_line m) r.centres.items ++ (codes "GAME " ++ (p.game ++ (codes " " ++ (phase_text p.board.phase ++ (codes " " ++ status_text m p.status))))))))
    (codes " D") (85 ∷ (codes "E " ++ (decimal p.due ++ 32 ∷ due_tail m p))))
