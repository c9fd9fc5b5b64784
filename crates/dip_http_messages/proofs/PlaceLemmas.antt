-- What matchit finds in the table is the place that a path names.
use Rattle.std.proofs.Common.{◌≡◌, ◌≢◌, ◌<◌, ◌-◌, ℕ, suc, List, [], ◌∷◌, ◌++◌, true, false, cond, ◌==◌, Option, Some, None, length, refl, ap, ◌∙◌, arith, if◌then◌else◌, option_and_then, codes, subst, lit<, length-append}
use Rattle.std.specs.Str.{IsAscii}
use Rattle.std.proofs.lemmas.Bool.Decides.{nat_tests}
use Rattle.matchit.specs.Rows.{RowsOf}
use Rattle.matchit.specs.Router.{RouteOf}
use Rattle.matchit.specs.Seek.{seek, own, step, param_step, has_slash, cuts, first}
use Rattle.matchit.specs.Seek as seeks
use Rattle.dip_http_messages.specs.declared.table.Route.{Route}
use Rattle.dip_http_messages.specs.Places.{Place, letters, game, paper, after, segment, from_slash, is_empty, paper_place, game_place, games_place, letters_place, or_place, place_of}
use Rattle.dip_http_messages.specs.Table.{table, letters_route, game_route, paper_route}
use Rattle.dip_http_messages.proofs.SeekLemmas.{under, under_all, step_under, seek_none, seek_end, seek_plain, seek_under, seek_after, seek_fork, or_none}
use Rattle.dip_http_messages.proofs.SlashLemmas.{cuts_no_slash, cuts_slash, no_slash, slash_text, sub_one, with_slash}

-- the route of a place
abbrev pub row_of : Option Place → Option (RouteOf Route)
row_of None = None
row_of (Some letters) = Some letters_route
row_of (Some (game name)) = Some game_route
row_of (Some (paper name number)) = Some paper_route

abbrev Rows : Type 0
Rows = RowsOf (RouteOf Route)

-- what follows a game's name, and a paper's number
abbrev pub number_rows : RowsOf (RouteOf Route)
number_rows = ([], paper_route) ∷ []

abbrev pub paper_rows : RowsOf (RouteOf Route)
paper_rows = under_all (codes "/papers/") (under 256 number_rows)

abbrev pub name_rows : RowsOf (RouteOf Route)
name_rows = paper_rows ++ ([], game_route) ∷ []

pub param_cut : (text : List ℕ) → cuts (seeks.segment text) slash_text ≡ true → param_step name_rows text ≡ (length (seeks.segment text) - 1, paper_rows)
unfolding param_step
param_cut text e = rw e refl

pub param_all : (text : List ℕ) → cuts (seeks.segment text) slash_text ≡ false → has_slash text ≡ false → param_step name_rows text ≡ (length text, name_rows)
unfolding param_step
param_all text e none = rw (e, none) refl

pub param_stop : (text : List ℕ) → cuts (seeks.segment text) slash_text ≡ false → has_slash text ≡ true → param_step name_rows text ≡ (0, [])
unfolding param_step
param_stop text e some = rw (e, some) refl

pub number_all : (text : List ℕ) → has_slash text ≡ false → param_step number_rows text ≡ (length text, number_rows)
unfolding param_step
number_all text none = rw none refl

pub number_stop : (text : List ℕ) → has_slash text ≡ true → param_step number_rows text ≡ (0, [])
unfolding param_step
number_stop text some = rw some refl

module _ {K : Type 0} where
  pub seek_skip : (front : List ℕ) (rs : RowsOf K) (text : List ℕ) → seek (length front) rs (front ++ text) ≡ seek 0 rs text
  unfolding seek
  seek_skip [] rs text = refl
  seek_skip (b ∷ front) rs text = seek_skip front rs text

  pub seek_all : (text : List ℕ) (rs : RowsOf K) → seek (length text) rs text ≡ own rs
  unfolding seek
  seek_all [] rs = refl
  seek_all (b ∷ text) rs = seek_all text rs

  -- rows that a parameter begins
  pub seek_param : (rs : RowsOf K) (c : ℕ) → c < 128 → (text : List ℕ)
      → seek 0 (under 256 rs) (c ∷ text) ≡ seek ((param_step rs (c ∷ text)).0 - 1) (param_step rs (c ∷ text)).1 text
  unfolding seek
  seek_param rs c small text =
      let no : (256 == c) ≡ false = grind (arith, nat_tests) in
      let one : step c (under 256 rs) ≡ [] = step_under 256 c rs ∙ ap (λ t. cond t rs []) no in
      let two : step 256 (under 256 rs) ≡ rs = step_under 256 256 rs in
      let three : step 257 (under 256 rs) ≡ [] = step_under 256 257 rs in
      rw (one, two, three, seek_none 0 text, or_none) refl

-- a paper's number, in matchit's words and here
pub seek_number : (name text : List ℕ) → IsAscii text → seek 0 (under 256 number_rows) text ≡ row_of (paper_place name text)
seek_number name [] ascii = seek_end (under 256 number_rows)
seek_number name (c ∷ text) ascii =
    seek_param number_rows c (ascii 0) text
    ∙ (elim (has_slash (c ∷ text)) as (λ t. has_slash (c ∷ text) ≡ t → seek ((param_step number_rows (c ∷ text)).0 - 1) (param_step number_rows (c ∷ text)).1 text ≡ row_of (paper_place name (c ∷ text))) [
      | true ↦ λ e. let full : is_empty (from_slash (c ∷ text)) ≡ false = not_empty _ (with_slash (c ∷ text) e).2 in rw (number_stop (c ∷ text) e, full) (seek_none 0 text)
      | false ↦ λ e. let none : from_slash (c ∷ text) ≡ [] = (no_slash (c ∷ text) e).2 in rw (number_all (c ∷ text) e, none, sub_one) (seek_all text number_rows)
    ]) refl
  where
    not_empty : (t : List ℕ) → t ≢ [] → is_empty t ≡ false
    not_empty [] ne = absurd (ne refl)
    not_empty (b ∷ t) ne = refl

pub after_ascii : (w path text : List ℕ) → IsAscii path → after w path ≡ Some text → IsAscii text
after_ascii [] path text ascii e = let same : path ≡ text = cc in subst (λ (t : List ℕ). IsAscii t) same ascii
after_ascii (b ∷ w) [] text ascii e = absurd (cc)
after_ascii (b ∷ w) (c ∷ path) text ascii e =
    (elim (b == c) as (λ t. (if t then after w path else None) ≡ Some text → IsAscii text)
    [ true ↦ λ h. after_ascii w path text (λ i. ascii (suc i)) h | false ↦ λ h. absurd (cc) ]) e

pub from_ascii : (text : List ℕ) → IsAscii text → IsAscii (from_slash text)
from_ascii [] ascii = ascii
from_ascii (b ∷ text) ascii =
    elim (b == 47) as (λ t. IsAscii (if t then b ∷ text else from_slash text)) [ true ↦ ascii | false ↦ from_ascii text (λ i. ascii (suc i)) ]

number_found : (name : List ℕ) (o : Option (List ℕ)) → ((t : List ℕ) → o ≡ Some t → IsAscii t)
    → option_and_then (λ t. seek 0 (under 256 number_rows) t) o ≡ row_of (option_and_then (paper_place name) o)
number_found name None ascii = refl
number_found name (Some t) ascii = seek_number name t (ascii t refl)

papers_found : (name text : List ℕ) → is_empty name ≡ false → text ≢ [] → IsAscii text
    → option_and_then (λ t. seek 0 (under 256 number_rows) t) (after (codes "/papers/") text) ≡ row_of (game_place name text)
papers_found name [] full some ascii = absurd (some refl)
papers_found name (b ∷ text) full some ascii =
    rw full (number_found name (after (codes "/papers/") (b ∷ text)) (λ t e. after_ascii (codes "/papers/") (b ∷ text) t ascii e))

whole : (c : ℕ) (text : List ℕ) → has_slash (c ∷ text) ≡ false
    → seek ((param_step name_rows (c ∷ text)).0 - 1) (param_step name_rows (c ∷ text)).1 text ≡ row_of (games_place (c ∷ text))
whole c text e =
    let n = no_slash (c ∷ text) e in
    rw (param_all (c ∷ text) (cuts_no_slash (c ∷ text) e) e, n.1, n.2, sub_one) (seek_all text name_rows)

slashed : (c : ℕ) (text : List ℕ) → IsAscii (c ∷ text) → has_slash (c ∷ text) ≡ true
    → seek ((param_step name_rows (c ∷ text)).0 - 1) (param_step name_rows (c ∷ text)).1 text ≡ row_of (games_place (c ∷ text))
slashed c text ascii e =
    (elim (c == 47) as (λ t. (c == 47) ≡ t → seek ((param_step name_rows (c ∷ text)).0 - 1) (param_step name_rows (c ∷ text)).1 text ≡ row_of (games_place (c ∷ text))) [
      | true ↦ λ is. let none : cuts (seeks.segment (c ∷ text)) slash_text ≡ false = cuts_slash (c ∷ text) e ∙ (rw is refl) in rw (param_stop (c ∷ text) none e, is) (seek_none 0 text)
      | false ↦ λ is.
          let rest : has_slash text ≡ true = rw is at e in
          let ws = with_slash text rest in
          let cut : cuts (seeks.segment (c ∷ text)) slash_text ≡ true = cuts_slash (c ∷ text) e ∙ (rw is refl) in
          let s : seeks.segment (c ∷ text) ≡ c ∷ (segment text ++ slash_text) = rw is (ap (λ t. c ∷ t) ws.0) in
          let count : length (seeks.segment (c ∷ text)) - 1 - 1 ≡ length (segment text) = omega (arith, ap length s, length-append (segment text) slash_text) in
          let skip : seek (length (segment text)) paper_rows text ≡ seek 0 paper_rows (from_slash text) = ap (λ (t : List ℕ). seek (length (segment text)) paper_rows t) ws.1 ∙ seek_skip (segment text) paper_rows (from_slash text) in
          let ascii_rest = from_ascii text (λ i. ascii (suc i)) in
          rw (param_cut (c ∷ text) cut, count, is) (skip ∙ (seek_after (codes "/papers/") refl (under 256 number_rows) (from_slash text) ∙ papers_found (c ∷ segment text) (from_slash text) refl ws.2 ascii_rest))
    ]) refl

-- a game's name, in matchit's words and here
pub seek_name : (text : List ℕ) → IsAscii text → seek 0 (under 256 name_rows) text ≡ row_of (games_place text)
seek_name [] ascii = seek_end (under 256 name_rows)
seek_name (c ∷ text) ascii =
    seek_param name_rows c (ascii 0) text
    ∙ (elim (has_slash (c ∷ text)) as (λ t. has_slash (c ∷ text) ≡ t → seek ((param_step name_rows (c ∷ text)).0 - 1) (param_step name_rows (c ∷ text)).1 text ≡ row_of (games_place (c ∷ text))) [ true ↦ slashed c text ascii | false ↦ whole c text ]) refl

games_found : (o : Option (List ℕ)) → ((t : List ℕ) → o ≡ Some t → IsAscii t)
    → option_and_then (λ t. seek 0 (under 256 name_rows) t) o ≡ row_of (option_and_then games_place o)
games_found None ascii = refl
games_found (Some t) ascii = seek_name t (ascii t refl)

abbrev letters_rows : RowsOf (RouteOf Route)
letters_rows = ([], letters_route) ∷ []

letters_found : (o : Option (List ℕ)) → option_and_then (λ t. seek 0 letters_rows t) o ≡ row_of (or_place (option_and_then letters_place o) None)
letters_found None = refl
letters_found (Some []) = seek_end letters_rows
letters_found (Some (b ∷ text)) = seek_plain letters_rows b text refl refl ∙ seek_none 0 text

abbrev game_rows : RowsOf (RouteOf Route)
game_rows = under_all (codes "ames/") (under 256 name_rows)

abbrev letter_rows : RowsOf (RouteOf Route)
letter_rows = under_all (codes "etters") letters_rows

-- what matchit finds in the table is the route of the place
pub table_finds : (path : List ℕ) → IsAscii path → first table path ≡ row_of (place_of path)
table_finds [] ascii = seek_end table
table_finds (c ∷ []) ascii =
    seek_under 47 (lit< tt) (under 103 game_rows ++ under 108 letter_rows) c []
    ∙ (rw (seek_end (under 103 game_rows ++ under 108 letter_rows)) (elim (47 == c) as (λ t. cond {A = Option (RouteOf Route)} t None None ≡ row_of (or_place (option_and_then letters_place (if t then None else None)) (option_and_then games_place (if t then None else None)))) [ true ↦ refl | false ↦ refl ]))
table_finds (c ∷ d ∷ q) ascii =
    seek_under 47 (lit< tt) (under 103 game_rows ++ under 108 letter_rows) c (d ∷ q)
    ∙ (ap (λ (v : Option (RouteOf Route)). cond (47 == c) v None) (seek_fork game_rows letter_rows d q)
    ∙ (elim (47 == c) as (λ t. cond t (cond (103 == d) (seek 0 game_rows q) (cond (108 == d) (seek 0 letter_rows q) None)) None
    ≡ row_of (or_place (option_and_then letters_place (if t then (if 108 == d then after (codes "etters") q else None) else None)) (option_and_then games_place (if t then (if 103 == d then after (codes "ames/") q else None) else None))))
    [ true ↦ second | false ↦ refl ]))
  where
    second : cond (103 == d) (seek 0 game_rows q) (cond (108 == d) (seek 0 letter_rows q) None)
        ≡ row_of (or_place (option_and_then letters_place (if 108 == d then after (codes "etters") q else None)) (option_and_then games_place (if 103 == d then after (codes "ames/") q else None)))
    second =
        (elim (103 == d) as (λ t. (103 == d) ≡ t → cond t (seek 0 game_rows q) (cond (108 == d) (seek 0 letter_rows q) None)
        ≡ row_of (or_place (option_and_then letters_place (if 108 == d then after (codes "etters") q else None)) (option_and_then games_place (if t then after (codes "ames/") q else None)))) [
          | true ↦ λ e. let no : (108 == d) ≡ false = grind (arith, nat_tests) in
              rw no (seek_after (codes "ames/") refl (under 256 name_rows) q ∙ games_found (after (codes "ames/") q) (λ t h. after_ascii (codes "ames/") q t (λ i. ascii (suc (suc i))) h))
          | false ↦ λ e. elim (108 == d) as (λ t. cond t (seek 0 letter_rows q) None ≡ row_of (or_place (option_and_then letters_place (if t then after (codes "etters") q else None)) None))
              [ true ↦ seek_after (codes "etters") refl letters_rows q ∙ letters_found (after (codes "etters") q) | false ↦ refl ]
        ]) refl
