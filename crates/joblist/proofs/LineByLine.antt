-- The first pass: lines that are read one after another.
use Rattle.std.proofs.Common.{◌≡◌, ◌==◌, ℕ, suc, ◌+◌, ◌^◌, ◌<◌, ◌≤◌, Bool, true, false, if◌then◌else◌, List, [], ◌∷◌, ◌++◌, map, filter, length, take, drop, get_or, None, Ok, Err, Result, refl, sym, ap, ◌∙◌, subst, arith}
use Rattle.std.specs.List.{slice_split, enumerate_from}
use Rattle.std.proofs.Math.Seq.{drop-cons, get_or-append_seam, take-append_seam}
use Rattle.std.proofs.lemmas.List.{append-nil, length-append, map-append, take-append-drop, take_all, take_more}
use Rattle.std.proofs.lemmas.List.Elements.{filter-append}
use Rattle.joblist.specs.declared.entry.Entry.{Entry as TheEntry}
use Rattle.joblist.specs.declared.refusal.Fault.{Fault}
use Rattle.joblist.specs.declared.refusal.JobRefusal.TheVariants.{Faulty}
use Rattle.joblist.specs.Lines.{Line, numbered, says, lines_of}
use Rattle.joblist.specs.Entries.{Entry, no_line, entry_of}
use Rattle.joblist.specs.Faults.{line_fault}
use Rattle.joblist.specs.JobLists.{first_below, at_line, line_refusal}
use Rattle.joblist.specs.Passes.{value_of, LineRead, LinesRead}
use Rattle.joblist.proofs.Firsts.{first_none, first_next, first_stays}

-- the parts of a text, each with its place
abbrev pub parts : List ℕ → List (ℕ × List ℕ)
parts text = enumerate_from 0 (slice_split (λ b. b == 10) text)

-- those of some parts that say something, as lines
unfoldable pub said : List (ℕ × List ℕ) → List Line
said ps = filter (λ l. says l.words) (map numbered ps)

-- the first n parts are read into these entries
pub record PartsRead (text : List ℕ) (n : ℕ) (es : List Entry) : Type 0 where
  pub entries : es ≡ map entry_of (said (take n (parts text)))
  pub passed : first_below (length (said (take n (parts text)))) (line_refusal (lines_of text)) ≡ None

pub parts_none : (text : List ℕ) → PartsRead text 0 []
unfolding said
parts_none text = record { entries = refl; passed = first_none (line_refusal (lines_of text)) }

-- all parts are the lines
said_all : (text : List ℕ) → said (parts text) ≡ lines_of text
unfolding said
said_all text = refl

said_append : (ps qs : List (ℕ × List ℕ)) → said (ps ++ qs) ≡ said ps ++ said qs
unfolding said
said_append ps qs = ap (filter (λ l. says l.words)) (map-append numbered ps qs) ∙ filter-append (λ l. says l.words) (map numbered ps) (map numbered qs)

-- a part that says something, and one that does not
said_one : (p : ℕ × List ℕ) → says (numbered p).words ≡ true → said (p ∷ []) ≡ numbered p ∷ []
unfolding said
said_one p speaks = rw speaks refl

said_none : (p : ℕ × List ℕ) → says (numbered p).words ≡ false → said (p ∷ []) ≡ []
unfolding said
said_none p silent = rw silent refl

-- one part more
said_next : (ps : List (ℕ × List ℕ)) (n : ℕ) (p : ℕ × List ℕ) → n < length ps → p ≡ get_or ps n p → said (take (n + 1) ps) ≡ said (take n ps) ++ said (p ∷ [])
said_next ps n p inside here = ap said (take_more ps n p inside ∙ ap (λ q. take n ps ++ q ∷ []) (sym here)) ∙ said_append (take n ps) (p ∷ [])

-- where part number n says something, its line stands behind those of the parts before
line_there : (text : List ℕ) (n : ℕ) (p : ℕ × List ℕ) → n < length (parts text) → p ≡ get_or (parts text) n p → says (numbered p).words ≡ true → lines_of text ≡ said (take n (parts text)) ++ numbered p ∷ said (drop (suc n) (parts text))
line_there text n p inside here speaks =
    let ps = parts text in
    let rest : said (drop n ps) ≡ numbered p ∷ said (drop (suc n) ps) = ap said (drop-cons ps n p inside ∙ ap (λ q. q ∷ drop (suc n) ps) (sym here)) ∙ (said_append (p ∷ []) (drop (suc n) ps) ∙ ap (λ ls. ls ++ said (drop (suc n) ps)) (said_one p speaks)) in
    sym (said_all text) ∙ (ap said (sym (take-append-drop n ps)) ∙ (said_append (take n ps) (drop n ps) ∙ ap (λ ls. said (take n ps) ++ ls) rest))

-- what refuses it
refusal_between : (before after : List Line) (l : Line) → line_refusal (before ++ l ∷ after) (length before) ≡ at_line l.number (line_fault (map entry_of before) l.words)
refusal_between before after l =
    let here = get_or-append_seam before l after no_line in
    let earlier = take-append_seam before (l ∷ after) in
    rw (here, earlier) refl

refusal_here : (text : List ℕ) (n : ℕ) (es : List Entry) (p : ℕ × List ℕ) → PartsRead text n es → n < length (parts text) → p ≡ get_or (parts text) n p → says (numbered p).words ≡ true → line_refusal (lines_of text) (length (said (take n (parts text)))) ≡ at_line (numbered p).number (line_fault es (numbered p).words)
refusal_here text n es p r inside here speaks =
    let before = said (take n (parts text)) in
    let after = said (drop (suc n) (parts text)) in
    ap (λ ls. line_refusal ls (length before)) (line_there text n p inside here speaks) ∙ (refusal_between before after (numbered p) ∙ ap (λ xs. at_line (numbered p).number (line_fault xs (numbered p).words)) (sym r.entries))

-- so it is skipped, read or refused

pub part_skipped : (text : List ℕ) (n : ℕ) (es : List Entry) (p : ℕ × List ℕ) → PartsRead text n es → n < length (parts text) → p ≡ get_or (parts text) n p → says (numbered p).words ≡ false → PartsRead text (n + 1) es
part_skipped text n es p r inside here silent =
    let before = said (take n (parts text)) in
    let same : said (take (n + 1) (parts text)) ≡ before = said_next (parts text) n p inside here ∙ (ap (λ ls. before ++ ls) (said_none p silent) ∙ append-nil before) in
    record {
      entries = r.entries ∙ ap (map entry_of) (sym same);
      passed = ap (λ (ls : List Line). first_below (length ls) (line_refusal (lines_of text))) same ∙ r.passed;
    }

pub part_read : (text : List ℕ) (n : ℕ) (es : List Entry) (p : ℕ × List ℕ) (e : TheEntry) → PartsRead text n es → n < length (parts text) → p ≡ get_or (parts text) n p → says (numbered p).words ≡ true → LineRead es (numbered p) (Ok e) → PartsRead text (n + 1) (es ++ value_of e ∷ [])
part_read text n es p e r inside here speaks (none, is) =
    let before = said (take n (parts text)) in
    let next : said (take (n + 1) (parts text)) ≡ before ++ numbered p ∷ [] = said_next (parts text) n p inside here ∙ ap (λ ls. before ++ ls) (said_one p speaks) in
    let longer : length (before ++ numbered p ∷ []) ≡ suc (length before) = omega (arith, length-append before (numbered p ∷ [])) in
    let passed = first_next (line_refusal (lines_of text)) (length before) r.passed ∙ (refusal_here text n es p r inside here speaks ∙ ap (at_line (numbered p).number) none) in
    record {
      entries = ap (λ xs. xs ++ value_of e ∷ []) r.entries ∙ (ap (λ x. map entry_of before ++ x ∷ []) is ∙ (sym (map-append entry_of before (numbered p ∷ [])) ∙ ap (map entry_of) (sym next)));
      passed = ap (λ (ls : List Line). first_below (length ls) (line_refusal (lines_of text))) next ∙ (ap (λ k. first_below k (line_refusal (lines_of text))) longer ∙ passed);
    }

pub part_refused : (text : List ℕ) (n : ℕ) (es : List Entry) (p : ℕ × List ℕ) (f : Fault) → PartsRead text n es → n < length (parts text) → p ≡ get_or (parts text) n p → says (numbered p).words ≡ true → LineRead es (numbered p) (Err f) → LinesRead (lines_of text) (Err (Faulty f (numbered p).number))
part_refused text n es p f r inside here speaks is =
    let before = said (take n (parts text)) in
    let after = said (drop (suc n) (parts text)) in
    let long : suc (length before) ≤ length (lines_of text) = omega (arith, ap length (line_there text n p inside here speaks), length-append before (numbered p ∷ after)) in
    first_stays (line_refusal (lines_of text)) (suc (length before)) (length (lines_of text)) _ long (first_next (line_refusal (lines_of text)) (length before) r.passed ∙ (refusal_here text n es p r inside here speaks ∙ ap (at_line (numbered p).number) is))

-- and in the end all are read
pub parts_all : (text : List ℕ) (n : ℕ) (es : List Entry) → PartsRead text n es → length (parts text) ≤ n → LinesRead (lines_of text) (Ok es)
parts_all text n es r all =
    let whole : said (take n (parts text)) ≡ lines_of text = ap said (take_all n (parts text) all) ∙ said_all text in
    (ap (λ (ls : List Line). first_below (length ls) (line_refusal (lines_of text))) (sym whole) ∙ r.passed, r.entries ∙ ap (map entry_of) whole)

-- What is known of equal entries, words and answers.

pub line_read_at : (es fs : List Entry) (number : ℕ) (ws vs : List (List ℕ)) (r s : Result TheEntry Fault) → es ≡ fs → ws ≡ vs → r ≡ s → LineRead es (record { number = number; words = ws }) r → LineRead fs (record { number = number; words = vs }) s
line_read_at es fs number ws vs r s entries words answer read = subst (LineRead fs (record { number = number; words = vs })) answer (subst (λ us. LineRead fs (record { number = number; words = us }) r) words (subst (λ xs. LineRead xs (record { number = number; words = ws }) r) entries read))

pub parts_read_at : (text : List ℕ) (n m : ℕ) (es fs : List Entry) → n ≡ m → es ≡ fs → PartsRead text n es → PartsRead text m fs
parts_read_at text n m es fs number entries read = subst (PartsRead text m) entries (subst (λ k. PartsRead text k es) number read)

-- How many parts are left is less than every count that fits.

at_most_left : (done : Bool) (n : ℕ) → (if done then 0 else n) ≤ n
at_most_left true n = omega arith
at_most_left false n = omega arith

pub few_left : (count : ℕ) (done : Bool) (rest text : List ℕ) → count ≡ 0 → rest ≡ text → length text ≤ 1048576 → count + (if done then 0 else (length rest + 1)) < 2 ^ 64
few_left count done rest text none is few = omega (arith, at_most_left done (length rest + 1), ap length is)
