-- What calls on a book gave is what it holds, and the runs since its sealing are runs on the network of that.
use Rattle.std.proofs.Common.{◌≡◌, ℕ, List, Ok, Err, Result, sym, refl, ap, ◌∙◌, subst}
use Rattle.network.specs.Nets.{Net}
use Rattle.search.specs.Runs.{Lent, Runs, Promise}
use Rattle.search.specs.Runs.Runs.{none, then}
use Rattle.search.specs.declared.refusal.RunRefusal.{RunRefusal}
use Rattle.search.specs.declared.report.Report.{Report}
use Rattle.network.specs.Cuts.{Selection, cost}
use Rattle.book.specs.declared.refusal.EnterRefusal.{EnterRefusal}
use Rattle.book.specs.declared.refusal.NeedRefusal.{NeedRefusal}
use Rattle.book.specs.Books.{Book, with_entry, with_need, network_of}
use Rattle.book.specs.Calls.{Open, Entered, Needed}
use Rattle.book.specs.Plans.{BestPlans}
use Rattle.tile.specs.Tiles.{tile_network, energy}
use Rattle.tile.specs.Calls.{State}
use Rattle.sheet.specs.declared.Counts.{Counts}
use Rattle.sheet.proofs.Sheets.{one_list}
use Rattle.filing.specs.declared.refusal.LoadRefusal.{LoadRefusal}
use Rattle.filing.specs.declared.refusal.LoadRefusal.TheVariants.{HasEntries, Sheet, ShortTable}
use Rattle.filing.specs.Books.{book_of}
use Rattle.filing.specs.Loads.{Loaded}
use Rattle.engine.specs.Histories.{entry_given, need_given, SheetGiven, Opened, Handled, BookPromise, HandledTile, TilePromise}
use Rattle.engine.specs.Histories.Opened.{new, enter, need, load}
use Rattle.engine.specs.Histories.Handled.{seal, run as run_book}
use Rattle.engine.specs.Histories.HandledTile.{lay, refused, run}

-- each call leaves the book with what it gave
after_enter : (s t : Open) (b : Book) (x y : ℕ) (r : Result ℕ EnterRefusal) → s.book ≡ b → Entered s x y r t → t.book ≡ entry_given b x y r
after_enter s t b x y (Ok i) is (_, _, holds, _) = holds ∙ ap (λ c. with_entry c x y) is
after_enter s t b x y (Err e) is (_, same) = ap (λ (o : Open). o.book) same ∙ is

after_need : (s t : Open) (b : Book) (u w : ℕ) (r : Result (Unit {0}) NeedRefusal) → s.book ≡ b → Needed s u w r t → t.book ≡ need_given b u w r
after_need s t b u w (Ok _) is (_, holds, _) = holds ∙ ap (λ c. with_need c u w) is
after_need s t b u w (Err e) is (_, same) = ap (λ (o : Open). o.book) same ∙ is

after_load : (s t : Open) (b c : Book) (bs : List ℕ) (r : Result Counts LoadRefusal) → s.book ≡ b → Loaded s bs r t → SheetGiven b bs r c → t.book ≡ c
after_load s t b c bs (Ok _) is (_, filed) (es, sheet, given) = filed.book ∙ ap book_of (one_list bs filed.entries es filed.sheet sheet) ∙ sym given
after_load s t b c bs (Err HasEntries) is (_, same) given = ap (λ (o : Open). o.book) same ∙ is ∙ sym given
after_load s t b c bs (Err (Sheet x)) is (_, _, same) given = ap (λ (o : Open). o.book) same ∙ is ∙ sym given
after_load s t b c bs (Err ShortTable) is (_, _, same) given = ap (λ (o : Open). o.book) same ∙ is ∙ sym given

pub given_is_held : (s : Open) (b : Book) → Opened s b → s.book ≡ b
given_is_held s b (new table) = refl
given_is_held t _ (enter {s = s} {b = b} before x y r entered) = after_enter s t b x y r (given_is_held s b before) entered
given_is_held t _ (need {s = s} {b = b} before u w r needed) = after_need s t b u w r (given_is_held s b before) needed
given_is_held t c (load {s = s} {b = b} before bs r loaded given) = after_load s t b c bs r (given_is_held s b before) loaded given

-- since its sealing a book is the network of that, with runs on it
handled_runs : (b : Book) (w : Net) (g k : ℕ) → Handled b w g k → Runs (network_of b) w g k
handled_runs b _ _ _ (seal {s = s} {t = t} opened sealed) =
    let is = given_is_held s b opened in
    subst (λ v. Runs (network_of b) v 0 0) (sym (sealed.network ∙ ap network_of is)) (none (rw (← is) sealed.lawful))
handled_runs b x _ _ (run_book {w = w} {g = g} {k = k} before lent r after ran) = then (handled_runs b w g k before) lent r after ran

handled_best : (b : Book) (w : Net) (g k : ℕ) → Handled b w g k → BestPlans b
handled_best b _ _ _ (seal {s = s} opened sealed) = subst BestPlans (given_is_held s b opened) sealed.best
handled_best b _ _ _ (run_book {w = w} {g = g} {k = k} before lent r after ran) = handled_best b w g k before

-- so what runs promise of any network is promised of it
pub book_promised : (w : Net) (r : Result Report RunRefusal) (x : Net) (after : Lent) → Promise w r x after → BookPromise w r x after
book_promised w r x after promise b g k handled = (promise (network_of b) g k (handled_runs b w g k handled), handled_best b w g k handled)

-- since an accepted lay a tile is the network of what was laid, with runs on it
tile_runs : (w h : ℕ) (bs : List ℕ) (x : Net) (g k : ℕ) → HandledTile w h bs x g k → Runs (tile_network w h bs) x g k
tile_runs w h bs _ _ _ (lay {s = s} {t = t} (_, laid)) = subst (λ v. Runs (tile_network w h bs) v 0 0) (sym laid.network) (none laid.lawful)
tile_runs w h bs _ g k (refused {s = s} {t = t} before width height costs e (_, same)) = subst (λ (o : State). Runs (tile_network w h bs) o.net g k) (sym same) (tile_runs w h bs s.net g k before)
tile_runs w h bs y _ _ (run {x = x} {g = g} {k = k} before lent r after ran) = then (tile_runs w h bs x g k before) lent r after ran

-- in which each selection costs its energy
tile_energy : (w h : ℕ) (bs : List ℕ) (x : Net) (g k : ℕ) → HandledTile w h bs x g k → (X : Selection) → cost (tile_network w h bs) X ≡ energy w h bs X
tile_energy w h bs _ _ _ (lay {s = s} {t = t} (_, laid)) = laid.energy
tile_energy w h bs _ g k (refused {s = s} {t = t} before width height costs e (_, same)) = tile_energy w h bs s.net g k before
tile_energy w h bs y _ _ (run {x = x} {g = g} {k = k} before lent r after ran) = tile_energy w h bs x g k before

pub tile_promised : (x : Net) (r : Result Report RunRefusal) (y : Net) (after : Lent) → Promise x r y after → TilePromise x r y after
tile_promised x r y after promise w h bs g k handled =
    let promised = promise (tile_network w h bs) g k (tile_runs w h bs x g k handled) in
    record { promised = promised; energy = λ X. promised.costs X ∙ tile_energy w h bs x g k handled X }
