-- What is told wrong is no game's: an input is cut into papers in one way at most, and papers leave a game in one way at most.
use Rattle.std.proofs.Common.{◌≡◌, ◌≢◌, ◌==◌, ◌≤◌, ◌++◌, ◌⊎◌, IfOk, Result, inl, inr, ℕ, Bool, true, false, List, [], ◌∷◌, Option, None, Some, codes, is_some, length, get_or, refl, ap, ap₂, sym, subst, ◌∙◌, arith}
use Rattle.std.proofs.lemmas.Bool.{and_parts, false≢true, true≢false}
use Rattle.std.proofs.lemmas.List.{append-nil, append_assoc}
use Rattle.std.proofs.lemmas.Str.{IsUtf8-append, IsUtf8-from_ascii}
use Rattle.std.specs.List.{AllByRecursion, list_all}
use Rattle.std.specs.Str.{IsUtf8}
use Rattle.dip_names.specs.Forms.{is_printable}
use Rattle.dip_map.specs.Charts.{Chart}
use Rattle.dip_desk_state.specs.Records.{Public}
use Rattle.dip_desk_state.specs.declared.records.Public.{Public as Row}
use Rattle.dip_desk_state.specs.Rows as rows
use Rattle.dip_check_papers.specs.Games.{AreNext, AreOfGame}
use Rattle.dip_check_papers.specs.Laws.{OpeningsHaveOneAnswer, PapersHaveOneAnswer}
use Rattle.dip_check_papers.specs.PaperTexts.{HasNoEnd, IsPaperText, PapersAreLines, end_line, text_of}
use Rattle.dip_check_papers.proofs.EndLemmas.{ArePrintable, cut_unique, text_ascii}
use Rattle.dip_check_papers.proofs.OneAnswer.{next_period}
use Rattle.dip_check_papers.specs.declared.faults.CheckFault.{CheckFault}
use Rattle.dip_check_runs.specs.Input.{AreEmptyLines, EndsOnce, IsAfterLines, IsRead, IsTakenFront, closing}
use Rattle.dip_check_runs.specs.Runs.{AreFronts, ArePlayed, HasBoard, TellsIfGame, IsSaid, is_right}
use Rattle.dip_check_runs.specs.declared.input.Ahead.{Ahead}
use Rattle.dip_check_runs.specs.declared.saying.Said.{Said}
use Rattle.dip_check_runs.specs.declared.saying.Said.TheVariants.{Right, Wrong, NoText}
use Rattle.dip_check_runs.proofs.InputLemmas.{lines_hold, no_lines}
use Rattle.dip_check_runs.proofs.RunLemmas.{on_ok}

-- ---- a paper's text

once : (t : List ℕ) → IsPaperText t → EndsOnce t
once t p = record { inner = p.inner; lines = p.lines; is = p.is }

begins : (t z : List ℕ) → IsPaperText t → get_or (t ++ z) 0 0 ≢ 10
begins t z p = λ lf.
    let first : get_or (t ++ z) 0 0 ≡ 80 = ap (λ (x : List ℕ). get_or (x ++ z) 0 0) p.begins in
    absurd (omega (arith, first, lf))

no_paper : (a t z : List ℕ) → IsPaperText t → AreEmptyLines (a ++ (t ++ z)) → ⊥
no_paper a t z p empty =
    let lf : 80 ≡ 10 = lines_hold a 80 _ (subst (λ (x : List ℕ). AreEmptyLines (a ++ (x ++ z))) p.begins empty) in
    absurd (omega (arith, lf))

each_prints : (l : List ℕ) → list_all is_printable l ≡ true → AllByRecursion (λ b. is_printable b ≡ true) l
each_prints [] all = tt
each_prints (b ∷ l) all = let parts = and_parts (is_printable b) (list_all is_printable l) all in (parts.0, each_prints l parts.1)

all_print : (ls : List (List ℕ)) → AllByRecursion (λ l. list_all is_printable l ≡ true) ls → ArePrintable ls
all_print [] all = tt
all_print (l ∷ ls) all = (each_prints l all.0, all_print ls all.1)

utf8 : (t : List ℕ) → IsPaperText t → IsUtf8 t
utf8 t p =
    subst (λ (x : List ℕ). IsUtf8 x) (sym p.is)
    (IsUtf8-append (text_of p.inner) end_line (IsUtf8-from_ascii (text_of p.inner) (text_ascii p.inner (all_print p.inner p.printed)))
    (IsUtf8-from_ascii end_line (text_ascii (codes "END" ∷ []) (all_print (codes "END" ∷ []) (refl, tt)))))

-- ---- where a text is cut

-- what comes after all empty lines is one
after_lines : (a b x y : List ℕ) → AreEmptyLines a → AreEmptyLines b → get_or x 0 0 ≢ 10 → get_or y 0 0 ≢ 10 → a ++ x ≡ b ++ y → x ≡ y
after_lines [] [] x y one two first second same = same
after_lines [] (k ∷ b) x y one two first second same = absurd (first (ap (λ (l : List ℕ). get_or l 0 0) same ∙ two.0))
after_lines (h ∷ a) [] x y one two first second same = absurd (second (ap (λ (l : List ℕ). get_or l 0 0) (sym same) ∙ one.0))
after_lines (h ∷ a) (k ∷ b) x y one two first second same = after_lines a b x y one.1 two.1 first second (cc)

lines_before : (a t : List ℕ) → AreEmptyLines a → EndsOnce t → EndsOnce (a ++ t)
lines_before [] t empty ends = ends
lines_before (x ∷ a) t empty ends =
    let rest = lines_before a t empty.1 ends in
    record { inner = [] ∷ rest.inner; lines = (tt, (λ same. cc), rest.lines); is = ap₂ (λ h l. h ∷ l) empty.0 rest.is }

parted : (t z : List ℕ) (e : EndsOnce t) → t ++ z ≡ text_of e.inner ++ (end_line ++ z)
parted t z e = ap (λ (x : List ℕ). x ++ z) e.is ∙ append_assoc (text_of e.inner) end_line z

one_end : (a b x y : List ℕ) → EndsOnce a → EndsOnce b → a ++ x ≡ b ++ y → (a ≡ b) × (x ≡ y)
one_end a b x y one two same =
    let both = cut_unique one.inner two.inner x y one.lines two.lines (sym (parted a x one) ∙ same ∙ parted b y two) in
    (one.is ∙ ap (λ (ls : List (List ℕ)). text_of ls ++ end_line) both.0 ∙ sym two.is, both.1)

grouped : (used a t b z : List ℕ) → used ≡ a ++ (t ++ b) → used ++ z ≡ a ++ (t ++ (b ++ z))
grouped used a t b z is = ap (λ (l : List ℕ). l ++ z) is ∙ append_assoc a (t ++ b) z ∙ ap (λ (l : List ℕ). a ++ l) (append_assoc t b z)

-- ---- papers that stand at the front of an input are the first ones of each spelling

record Goes (papers others : List (List ℕ)) (rest last : List ℕ) : Type 0 where
  more : List (List ℕ)
  bytes : List ℕ
  are : others ≡ papers ++ more
  fronts : AreFronts bytes more
  is : rest ≡ bytes ++ last

goes : (papers others : List (List ℕ)) (used bytes rest last : List ℕ) → AllByRecursion IsPaperText papers → AllByRecursion IsPaperText others
    → AreFronts used papers → AreFronts bytes others → AreEmptyLines last → used ++ rest ≡ bytes ++ last → Goes papers others rest last
goes [] others used bytes rest last these those fronts front empty same = record {
  more = others;
  bytes = bytes;
  are = refl;
  fronts = front;
  is = ap (λ (l : List ℕ). l ++ rest) (sym fronts) ∙ same;
}
goes (t ∷ ts) [] used bytes rest last these those fronts front empty same =
    let all : last ≡ fronts.0 ++ (t ++ (fronts.1 ++ rest)) = ap (λ (l : List ℕ). l ++ last) (sym front) ∙ sym same ∙ grouped used fronts.0 t fronts.1 rest fronts.3 in
    absurd (no_paper fronts.0 t (fronts.1 ++ rest) these.0 (subst (λ (l : List ℕ). AreEmptyLines l) all empty))
goes (t ∷ ts) (s ∷ ss) used bytes rest last these those fronts front empty same =
    let here : t ++ (fronts.1 ++ rest) ≡ s ++ (front.1 ++ last) =
    after_lines fronts.0 front.0 (t ++ (fronts.1 ++ rest)) (s ++ (front.1 ++ last)) fronts.2 front.2 (begins t (fronts.1 ++ rest) these.0) (begins s (front.1 ++ last) those.0)
    (sym (grouped used fronts.0 t fronts.1 rest fronts.3) ∙ same ∙ grouped bytes front.0 s front.1 last front.3) in
    let both = one_end t s (fronts.1 ++ rest) (front.1 ++ last) (once t these.0) (once s those.0) here in
    let later = goes ts ss fronts.1 front.1 rest last these.1 those.1 fronts.4 front.4 empty both.1 in
    record { more = later.more; bytes = later.bytes; are = ap₂ (λ h l. h ∷ l) (sym both.0) later.are; fronts = later.fronts; is = later.is }

all_later : (a b : List (List ℕ)) → AllByRecursion IsPaperText (a ++ b) → AllByRecursion IsPaperText b
all_later [] b all = all
all_later (x ∷ a) b all = all_later a b all.1

more_than_lines : (a paper z : List ℕ) → paper ≢ [] → get_or paper 0 0 ≢ 10 → AreEmptyLines (a ++ (paper ++ z)) → ⊥
more_than_lines a [] z some first empty = some refl
more_than_lines a (x ∷ xs) z some first empty = first (lines_hold a x (xs ++ z) empty)

-- ---- and the one that was taken off is the next

-- all bytes that were left were taken, where no line of them is `END`
abbrev IsTaken : List ℕ → List ℕ → Type 0
IsTaken front rest = EndsOnce front ⊎ (HasNoEnd front × (rest ≡ []))

module _ (papers others : List (List ℕ)) (front lines paper rest last : List ℕ) (is : front ≡ lines ++ paper) (empty : AreEmptyLines lines) (first : get_or paper 0 0 ≢ 10)
    (some : paper ≢ []) (end : AreEmptyLines last) where
  record Comes : Type 0 where
    later : List (List ℕ)
    are : others ≡ papers ++ (paper ∷ later)
    text : IsPaperText paper

  same_paper : (a t b : List ℕ) → IsPaperText t → AreEmptyLines a → front ++ rest ≡ a ++ (t ++ b) → IsTaken front rest → paper ≡ t
  same_paper a t b text blank same (inl cut) =
      let both = one_end front (a ++ t) rest b cut (lines_before a t blank (once t text)) (same ∙ sym (append_assoc a t b)) in
      after_lines lines a paper t empty blank first (subst (λ (x : List ℕ). get_or x 0 0 ≢ 10) (append-nil t) (begins t [] text)) (sym is ∙ both.0)
  same_paper a t b text blank same (inr none) =
      let ends = lines_before a t blank (once t text) in
      let whole : front ≡ (a ++ t) ++ b = sym (append-nil front) ∙ ap (λ (l : List ℕ). front ++ l) (sym none.1) ∙ same ∙ sym (append_assoc a t b) in
      absurd (none.0 ends.inner b (ends.lines, whole ∙ parted (a ++ t) b ends))

  next_by : (more : List (List ℕ)) (bytes : List ℕ) → AllByRecursion IsPaperText more → others ≡ papers ++ more → AreFronts bytes more → front ++ rest ≡ bytes ++ last
      → IsTaken front rest → Comes
  next_by [] bytes texts are fronts same taken =
      let all : last ≡ lines ++ (paper ++ rest) = ap (λ (l : List ℕ). l ++ last) (sym fronts) ∙ sym same ∙ ap (λ (l : List ℕ). l ++ rest) is ∙ append_assoc lines paper rest in
      absurd (more_than_lines lines paper rest some first (subst (λ (l : List ℕ). AreEmptyLines l) all end))
  next_by (t ∷ ts) bytes texts are fronts same taken =
      let one : paper ≡ t = same_paper fronts.0 t (fronts.1 ++ last) texts.0 fronts.2 (same ∙ grouped bytes fronts.0 t fronts.1 last fronts.3) taken in
      record { later = ts; are = are ∙ ap (λ (x : List ℕ). papers ++ (x ∷ ts)) (sym one); text = subst IsPaperText (sym one) texts.0 }

  next_paper : AllByRecursion IsPaperText others → Goes papers others (front ++ rest) last → IsTaken front rest → Comes
  next_paper texts g taken =
      next_by g.more g.bytes (all_later papers g.more (subst (λ (ls : List (List ℕ)). AllByRecursion IsPaperText ls) g.are texts)) g.are g.fronts g.is taken

-- ---- the whole of an input that is known

record Parts (xs used : List ℕ) (ahead : Ahead) : Type 0 where
  rest : List ℕ
  is : xs ++ 10 ∷ [] ≡ used ++ rest
  none : ahead.ended ≡ true → ahead.bytes.items ≡ [] → rest ≡ []

parts : (xs : List ℕ) (left : Option (List ℕ)) (used : List ℕ) (ahead : Ahead) → IsRead (Some xs) left used ahead → Parts xs used ahead
parts xs None used ahead r = absurd r.consumed
parts xs (Some ys) used ahead r = by ahead.ended refl
  where
    by : (b : Bool) → ahead.ended ≡ b → Parts xs used ahead
    by true at_end = record {
      rest = ahead.bytes.items;
      is = ap (λ (l : List ℕ). l ++ 10 ∷ []) (r.consumed ∙ ap (λ (l : List ℕ). r.read ++ l) (r.end at_end) ∙ append-nil r.read)
          ∙ ap (λ (l : List ℕ). r.read ++ l) (sym (ap closing at_end)) ∙ r.parts;
      none = λ ended items. items;
    }
    by false goes_on = record {
      rest = ahead.bytes.items ++ (ys ++ 10 ∷ []);
      is =
          let so_far : r.read ≡ used ++ ahead.bytes.items = sym (append-nil r.read) ∙ ap (λ (l : List ℕ). r.read ++ l) (sym (ap closing goes_on)) ∙ r.parts in
          ap (λ (l : List ℕ). l ++ 10 ∷ []) (r.consumed ∙ ap (λ (l : List ℕ). l ++ ys) so_far) ∙ append_assoc (used ++ ahead.bytes.items) ys (10 ∷ [])
          ∙ append_assoc used ahead.bytes.items (ys ++ 10 ∷ []);
      none = λ ended items. absurd (true≢false (sym ended ∙ goes_on));
    }

-- ---- how a game stands after papers

-- papers that come after those that were played
abbrev pub Follows : Chart → Option Row → List (List ℕ) → Public → Type 0
Follows m None more new = AreOfGame m more new
Follows m (Some p) more new = AreNext m (rows.public p) more new

abbrev pub IsShort : Option Row → Type 0
IsShort None = Unit {0}
IsShort (Some p) = p.period ≤ 999999

-- after these papers the game stands so, and in no other way
pub record StandsSo (m : Chart) (papers : List (List ℕ)) (game : Option Row) : Type 0 where
  pub short : IsShort game
  pub only : (more : List (List ℕ)) (new : Public) → AreOfGame m (papers ++ more) new → Follows m game more new

pub stands_none : (m : Chart) → StandsSo m [] None
stands_none m = record { short = tt; only = λ more new h. h }

pub stands_more : (m : Chart) → PapersHaveOneAnswer m → OpeningsHaveOneAnswer m → (papers : List (List ℕ)) (game : Option Row) (paper : List ℕ) (new : Row) → HasBoard m game
    → IsSaid m game paper (Right new) → StandsSo m papers game → StandsSo m (papers ++ paper ∷ []) (Some new)
stands_more m next first papers None paper new board said s = record {
  short = let same : new.period ≡ said.0.period = ap (λ (q : Public). q.period) said.0.after in omega (arith, same, said.0.most);
  only = λ more last h.
      let o = s.only (paper ∷ more) last (subst (λ (ls : List (List ℕ)). AreOfGame m ls last) (append_assoc papers (paper ∷ []) more) h) in
      subst (λ (q : Public). AreNext m q more last) (sym (first (rows.public new) o.0 paper said.0 o.1)) o.2;
}
stands_more m next first papers (Some p) paper new board said s = record {
  short = next_period m (rows.public p) paper (rows.public new) said.0 s.short;
  only = λ more last h.
      let o = s.only (paper ∷ more) last (subst (λ (ls : List (List ℕ)). AreOfGame m ls last) (append_assoc papers (paper ∷ []) more) h) in
      subst (λ (q : Public). AreNext m q more last) (sym (next (rows.public p) (rows.public new) o.0 paper board s.short said.0 o.1)) o.2;
}

-- what isn't told right is the next of none
not_next : (m : Chart) (game : Option Row) (paper : List ℕ) (said : Said) (later : List (List ℕ)) (new : Public) → IsSaid m game paper said → is_right said ≡ false
    → IsPaperText paper → Follows m game (paper ∷ later) new → ⊥
not_next m game paper (Right r) later new is wrong text h = true≢false wrong
not_next m None paper (Wrong fault) later new is wrong text h = is h.0 h.1
not_next m (Some p) paper (Wrong fault) later new is wrong text h = is h.0 h.1
not_next m None paper (NoText line) later new is wrong text h = is (utf8 paper text)
not_next m (Some p) paper (NoText line) later new is wrong text h = is (utf8 paper text)

played_texts : (m : Chart) → PapersAreLines m → (papers : List (List ℕ)) (game : Option Row) → ArePlayed m papers game → AllByRecursion IsPaperText papers
played_texts m texts papers None played = subst (λ (ls : List (List ℕ)). AllByRecursion IsPaperText ls) (sym played) tt
played_texts m texts papers (Some p) played = texts papers (rows.public p) played.0

-- ---- an input that is told wrong

is_taken : (front rest : List ℕ) (ahead : Ahead) → IsTakenFront front ahead → (ahead.ended ≡ true → ahead.bytes.items ≡ [] → rest ≡ []) → IsTaken front rest
is_taken front rest ahead (inl cut) none = inl cut
is_taken front rest ahead (inr end) none = inr (end.0, none end.1 end.2)

pub some_bytes : (t : List ℕ) → false ≡ (length t == 0) → t ≢ []
some_bytes t some is = false≢true (some ∙ ap (λ (l : List ℕ). length l == 0) is)

pub wrong_is_none : (m : Chart) → PapersAreLines m → (known left : Option (List ℕ)) (used front slice paper : List ℕ) (papers : List (List ℕ)) (game : Option Row) (ahead : Ahead) (said : Said)
    → ArePlayed m papers game → StandsSo m papers game → AreFronts used papers → IsRead known left (used ++ front) ahead → IsTakenFront front ahead
    → slice ≡ front → IsAfterLines slice paper → paper ≢ [] → IsSaid m game paper said → is_right said ≡ false → TellsIfGame m known false
wrong_is_none m texts None left used front slice paper papers game ahead said played stands fronts read taken same after some is wrong = tt
wrong_is_none m texts (Some xs) left used front slice paper papers game ahead said played stands fronts read taken same after some is wrong = λ g.
    let others = g.papers in
    let new = g.public in
    let spelled = g.spelled in
    let game_of = g.are in
    let p = parts xs left (used ++ front) ahead read in
    let those = texts others new game_of in
    let all : used ++ (front ++ p.rest) ≡ spelled.front ++ spelled.lines = sym (append_assoc used front p.rest) ∙ sym p.is ∙ spelled.parts in
    let found = goes papers others used spelled.front (front ++ p.rest) spelled.lines (played_texts m texts papers game played) those fronts spelled.fronts spelled.empty all in
    let comes = next_paper papers others front after.0 paper p.rest spelled.lines (sym same ∙ after.2) after.1 after.3 some spelled.empty those found (is_taken front p.rest ahead taken p.none) in
    not_next m game paper said comes.later new is wrong comes.text (stands.only (paper ∷ comes.later) new (subst (λ (ls : List (List ℕ)). AreOfGame m ls new) comes.are game_of))

-- ---- an input of empty lines alone

no_front : (bytes last whole : List ℕ) (papers : List (List ℕ)) (m : Chart) (new : Public) → AllByRecursion IsPaperText papers → AreFronts bytes papers → AreEmptyLines whole
    → whole ≡ bytes ++ last → AreOfGame m papers new → ⊥
no_front bytes last whole [] m new texts fronts empty is game_of = game_of
no_front bytes last whole (t ∷ ts) m new texts fronts empty is game_of =
    no_paper fronts.0 t (fronts.1 ++ last) texts.0 (subst (λ (l : List ℕ). AreEmptyLines l) (is ∙ grouped bytes fronts.0 t fronts.1 last fronts.3) empty)

none_used : (used : List ℕ) (papers : List (List ℕ)) → papers ≡ [] → AreFronts used papers → used ≡ []
none_used used [] is fronts = fronts
none_used used (t ∷ ts) is fronts = cc

empty_is_none : (m : Chart) → PapersAreLines m → (known left : Option (List ℕ)) (used front : List ℕ) (papers : List (List ℕ)) (ahead : Ahead) → papers ≡ [] → AreFronts used papers
    → AreEmptyLines front → IsRead known left (used ++ front) ahead → IsTakenFront front ahead → TellsIfGame m known false
empty_is_none m texts None left used front papers ahead played fronts empty read taken = tt
empty_is_none m texts (Some xs) left used front papers ahead played fronts empty read (inl cut) = absurd (no_lines front cut empty)
empty_is_none m texts (Some xs) left used front papers ahead played fronts empty read (inr end) = λ g.
    let others = g.papers in
    let new = g.public in
    let spelled = g.spelled in
    let game_of = g.are in
    let p = parts xs left (used ++ front) ahead read in
    let whole : front ≡ spelled.front ++ spelled.lines =
    ap (λ (l : List ℕ). l ++ front) (sym (none_used used papers played fronts)) ∙ sym (append-nil (used ++ front)) ∙ ap (λ (l : List ℕ). (used ++ front) ++ l) (sym (p.none end.1 end.2)) ∙ sym p.is ∙ spelled.parts in
    no_front spelled.front spelled.lines front others m new (texts others new game_of) spelled.fronts empty whole game_of

-- what is told in the end is so: the input is a game's papers, or there is no paper
all_is_game : (m : Chart) (known left : Option (List ℕ)) (used front : List ℕ) (papers : List (List ℕ)) (p : Row) (ahead : Ahead) → AreOfGame m papers (rows.public p) → AreFronts used papers
    → AreEmptyLines front → IsRead known left (used ++ front) ahead → IsTakenFront front ahead → TellsIfGame m known true
all_is_game m None left used front papers p ahead are fronts empty read taken = tt
all_is_game m (Some xs) left used front papers p ahead are fronts empty read (inl cut) = absurd (no_lines front cut empty)
all_is_game m (Some xs) left used front papers p ahead are fronts empty read (inr end) =
    let whole = parts xs left (used ++ front) ahead read in
    record {
      papers = papers;
      public = rows.public p;
      spelled = record {
        front = used;
        lines = front;
        fronts = fronts;
        empty = empty;
        parts = whole.is ∙ ap (λ (l : List ℕ). (used ++ front) ++ l) (whole.none end.1 end.2) ∙ append-nil (used ++ front);
      };
      are = are;
    }

told_end : (m : Chart) → PapersAreLines m → (known left : Option (List ℕ)) (used front : List ℕ) (papers : List (List ℕ)) (game : Option Row) (ahead : Ahead) → ArePlayed m papers game
    → AreFronts used papers → AreEmptyLines front → IsRead known left (used ++ front) ahead → IsTakenFront front ahead → TellsIfGame m known (is_some game)
told_end m texts known left used front papers None ahead played fronts empty read taken = empty_is_none m texts known left used front papers ahead played fronts empty read taken
told_end m texts known left used front papers (Some p) ahead played fronts empty read taken = all_is_game m known left used front papers p ahead played.0 fronts empty read taken

pub end_is_exact : (m : Chart) → PapersAreLines m → (known left : Option (List ℕ)) (used front : List ℕ) (papers : List (List ℕ)) (game : Option Row) (ahead : Ahead) (r : Result Bool CheckFault)
    → ArePlayed m papers game → AreFronts used papers → AreEmptyLines front → IsRead known left (used ++ front) ahead → IsTakenFront front ahead
    → IfOk r (λ right. right ≡ is_some game) → IfOk r (TellsIfGame m known)
end_is_exact m texts known left used front papers game ahead r played fronts empty read taken is =
    on_ok (λ right. right ≡ is_some game) (TellsIfGame m known) r is
    (λ right same. subst (λ (b : Bool). TellsIfGame m known b) (sym same) (told_end m texts known left used front papers game ahead played fronts empty read taken))
