-- The route that is found, its parameters, and the place.
use Rattle.std.proofs.Common.{◌≡◌, ℕ, suc, List, [], ◌∷◌, ◌++◌, true, false, if◌then◌else◌, not, ◌||◌, ◌==◌, Option, Some, None, refl, sym, ap, subst, ◌∙◌, codes, option_and_then, append-nil, arith, lit<, zero}
use Rattle.std.specs.Str.{IsAscii, IsUtf8}
use Rattle.std.proofs.lemmas.Str.{IsUtf8-from_ascii}
use Rattle.std.proofs.lemmas.Bool.Decides.{nat_tests}
use Rattle.matchit.specs.Seek.{first, has_slash}
use Rattle.matchit.specs.Params.{walk, AllText}
use Rattle.matchit.specs.Router.{RouteOf}
use Rattle.dip_http_messages.specs.declared.table.Route.{Route}
use Rattle.dip_http_messages.specs.Places.{Place, letters, game, paper, after, segment, from_slash, is_empty, paper_place, game_place, games_place, letters_place, or_place, place_of}
use Rattle.dip_http_messages.specs.Table.{table, letters_route, game_route, paper_route}
use Rattle.dip_http_messages.specs.Taken.{place_with}
use Rattle.dip_http_messages.proofs.SlashLemmas.{segment_plain, segment_rest}
use Rattle.dip_http_messages.proofs.PlaceLemmas.{row_of, table_finds}
use Rattle.dip_http_messages.proofs.WalkLemmas.{walk_game, walk_paper}

after_takes : (w path text : List ℕ) → after w path ≡ Some text → path ≡ w ++ text
after_takes [] path text e = cc
after_takes (b ∷ w) [] text e = absurd (cc)
after_takes (b ∷ w) (c ∷ path) text e =
    (elim (b == c) as (λ t. (b == c) ≡ t → (if t then after w path else None) ≡ Some text → c ∷ path ≡ b ∷ (w ++ text)) [
      | true ↦ λ is h. let same : b ≡ c = grind (arith, nat_tests) in rw same (ap (λ t. c ∷ t) (after_takes w path text h))
      | false ↦ λ is h. absurd (cc)
    ]) refl e

-- what is known of a path with this place
abbrev pub HasPath : List ℕ → Place → Type 0
HasPath path letters = Unit {0}
HasPath path (game name) = path ≡ codes "/games/" ++ name
HasPath path (paper name number) = (path ≡ codes "/games/" ++ (name ++ (codes "/papers/" ++ number))) × (has_slash name ≡ false)

-- what follows a name
abbrev HasRest : List ℕ → List ℕ → Place → Type 0
HasRest name rest letters = ⊥
HasRest name rest (game other) = (rest ≡ []) × (other ≡ name)
HasRest name rest (paper other number) = (rest ≡ codes "/papers/" ++ number) × (other ≡ name)

paper_rest : (name text : List ℕ) (place : Place) → paper_place name text ≡ Some place → place ≡ paper name text
paper_rest name text place e =
    (elim (is_empty text || not (is_empty (from_slash text))) as (λ t. (if t then None else Some (paper name text)) ≡ Some place → place ≡ paper name text)
    [ true ↦ λ h. absurd (cc) | false ↦ λ h. cc ]) e

papers_rest : (name rest : List ℕ) (o : Option (List ℕ)) (place : Place) → ((t : List ℕ) → o ≡ Some t → rest ≡ codes "/papers/" ++ t) → option_and_then (paper_place name) o ≡ Some place → HasRest name rest place
papers_rest name rest None place was e = absurd (cc)
papers_rest name rest (Some t) place was e = subst (λ (p : Place). HasRest name rest p) (sym (paper_rest name t place e)) (was t refl, refl)

game_rest : (name rest : List ℕ) (place : Place) → game_place name rest ≡ Some place → HasRest name rest place
game_rest name [] place e =
    (elim (is_empty name) as (λ t. (if t then None else Some (game name)) ≡ Some place → HasRest name [] place)
    [ true ↦ λ h. absurd (cc) | false ↦ λ h. let p : game name ≡ place = cc in subst (λ (q : Place). HasRest name [] q) p (refl, refl) ]) e
game_rest name (b ∷ rest) place e =
    (elim (is_empty name) as (λ t. (if t then None else option_and_then (paper_place name) (after (codes "/papers/") (b ∷ rest))) ≡ Some place → HasRest name (b ∷ rest) place)
    [ true ↦ λ h. absurd (cc) | false ↦ λ h. papers_rest name (b ∷ rest) (after (codes "/papers/") (b ∷ rest)) place (λ t was. after_takes (codes "/papers/") (b ∷ rest) t was) h ]) e

whole_path : (path text : List ℕ) (place : Place) → path ≡ codes "/games/" ++ text → HasRest (segment text) (from_slash text) place → HasPath path place
whole_path path text letters is rest = absurd rest
whole_path path text (game name) is rest =
    let t : text ≡ name = segment_rest text ∙ (ap (λ (r : List ℕ). segment text ++ r) rest.0 ∙ (append-nil (segment text) ∙ sym rest.1)) in
    is ∙ ap (λ (r : List ℕ). codes "/games/" ++ r) t
whole_path path text (paper name number) is rest =
    let t : text ≡ name ++ (codes "/papers/" ++ number) = segment_rest text ∙ (ap (λ (r : List ℕ). segment text ++ r) rest.0 ∙ ap (λ (n : List ℕ). n ++ (codes "/papers/" ++ number)) (sym rest.1)) in
    (is ∙ ap (λ (r : List ℕ). codes "/games/" ++ r) t, ap has_slash rest.1 ∙ segment_plain text)

games_path : (path : List ℕ) (o : Option (List ℕ)) (place : Place) → ((t : List ℕ) → o ≡ Some t → path ≡ codes "/games/" ++ t) → option_and_then games_place o ≡ Some place → HasPath path place
games_path path None place was e = absurd (cc)
games_path path (Some t) place was e = whole_path path t place (was t refl) (game_rest (segment t) (from_slash t) place e)

letters_path : (path : List ℕ) (o : Option (List ℕ)) (other : Option Place) (place : Place) → (other ≡ Some place → HasPath path place) → or_place (option_and_then letters_place o) other ≡ Some place → HasPath path place
letters_path path None other place later e = later e
letters_path path (Some []) other place later e = let p : letters ≡ place = cc in subst (λ (q : Place). HasPath path q) p tt
letters_path path (Some (b ∷ t)) other place later e = later e

pub path_of_place : (path : List ℕ) (place : Place) → place_of path ≡ Some place → HasPath path place
path_of_place path place e =
    letters_path path (after (codes "/letters") path) (option_and_then games_place (after (codes "/games/") path)) place
    (λ h. games_path path (after (codes "/games/") path) place (λ t was. after_takes (codes "/games/") path t was) h) e

-- a route that is found, with what it took
pub record IsFound (path : List ℕ) (route : RouteOf Route) : Type 0 where
  pub place : place_with route.value (walk route.pattern route.text path route.names 0 0) ≡ place_of path
  pub text : AllText (walk route.pattern route.text path route.names 0 0)

ascii_back : (a b : List ℕ) → IsAscii (a ++ b) → IsAscii b
ascii_back [] b ascii = ascii
ascii_back (x ∷ a) b ascii = ascii_back a b (λ i. ascii (suc i))

ascii_front : (a b : List ℕ) → IsAscii (a ++ b) → IsAscii a
ascii_front [] b ascii i = lit< tt
ascii_front (x ∷ a) b ascii zero = ascii 0
ascii_front (x ∷ a) b ascii (suc i) = ascii_front a b (λ j. ascii (suc j)) i

utf8_game : IsUtf8 (codes "game")
unfolding lib.Utf8.encode
utf8_game = (codes "game", (refl, refl))

utf8_number : IsUtf8 (codes "number")
unfolding lib.Utf8.encode
utf8_number = (codes "number", (refl, refl))

by_place : (path : List ℕ) (route : RouteOf Route) (o : Option Place) → IsAscii path → place_of path ≡ o → row_of o ≡ Some route → IsFound path route
by_place path route None ascii e r = absurd (cc)
by_place path route (Some letters) ascii e r =
    let same : letters_route ≡ route = cc in
    subst (λ (q : RouteOf Route). IsFound path q) same (record { place = sym e; text = tt })
by_place path route (Some (game name)) ascii e r =
    let same : game_route ≡ route = cc in
    let is = path_of_place path (game name) e in
    let w : walk game_route.pattern game_route.text path game_route.names 0 0 ≡ (codes "game", name) ∷ [] = ap (λ (p : List ℕ). walk game_route.pattern game_route.text p game_route.names 0 0) is ∙ walk_game name in
    let plain = ascii_back (codes "/games/") name (subst (λ (p : List ℕ). IsAscii p) is ascii) in
    subst (λ (q : RouteOf Route). IsFound path q) same (record {
      place = ap (place_with game_route.value) w ∙ sym e;
      text = subst (λ (ps : List (List ℕ × List ℕ)). AllText ps) (sym w) (utf8_game, IsUtf8-from_ascii name plain, tt);
    })
by_place path route (Some (paper name number)) ascii e r =
    let same : paper_route ≡ route = cc in
    let is = path_of_place path (paper name number) e in
    let w : walk paper_route.pattern paper_route.text path paper_route.names 0 0 ≡ (codes "game", name) ∷ (codes "number", number) ∷ [] = ap (λ (p : List ℕ). walk paper_route.pattern paper_route.text p paper_route.names 0 0) is.0 ∙ walk_paper name number is.1 in
    let plain = ascii_back (codes "/games/") (name ++ (codes "/papers/" ++ number)) (subst (λ (p : List ℕ). IsAscii p) is.0 ascii) in
    let plain_name = ascii_front name (codes "/papers/" ++ number) plain in
    let plain_number = ascii_back (codes "/papers/") number (ascii_back name (codes "/papers/" ++ number) plain) in
    subst (λ (q : RouteOf Route). IsFound path q) same (record {
      place = ap (place_with paper_route.value) w ∙ sym e;
      text = subst (λ (ps : List (List ℕ × List ℕ)). AllText ps) (sym w) (utf8_game, IsUtf8-from_ascii name plain_name, (utf8_number, IsUtf8-from_ascii number plain_number, tt));
    })

pub route_found : (path : List ℕ) (route : RouteOf Route) → IsAscii path → first table path ≡ Some route → IsFound path route
route_found path route ascii e = by_place path route (place_of path) ascii refl (sym (table_finds path ascii) ∙ e)

by_none : (o : Option Place) → row_of o ≡ None → o ≡ None
by_none None e = refl
by_none (Some letters) e = absurd (cc)
by_none (Some (game name)) e = absurd (cc)
by_none (Some (paper name number)) e = absurd (cc)

pub none_found : (path : List ℕ) → IsAscii path → first table path ≡ None → place_of path ≡ None
none_found path ascii e = by_none (place_of path) (sym (table_finds path ascii) ∙ e)
