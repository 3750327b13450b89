-- The lines of an area, written pixel by pixel.
use Rattle.std.proofs.Common.{◌≡◌, ℕ, ◌+◌, ◌<◌, ◌*◌, Bool, false, List, length, set, refl, sym, ◌∙◌, ⊎_elim, arith, length-set}
use Rattle.std.proofs.lemmas.Bool.{cases_eq}
use Rattle.std.proofs.lemmas.List.{get_or-set_same, get_or-set_other}
use Rattle.network.specs.declared.mark.Mark.{Mark}
use Rattle.prepress.specs.declared.area.Area.{Area}
use Rattle.prepress.specs.Areas.{OnPage, pixel_count, place}
use Rattle.prepress.specs.Splits.{lines}
use Rattle.prepress.specs.Cuts.{Blackened}
use Rattle.prepress.proofs.Areas.{place_inside, place_once}

pub blackened_none : (w : ℕ) (a : Area) (marks : List Mark) (black : List Bool) → Blackened w a 0 marks black black
blackened_none w a marks black = record { whole = refl; written = λ v there. absurd (omega arith); others = λ p apart. refl }

-- one pixel more
pub blackened_more : (w h : ℕ) (a : Area) (k : ℕ) (marks : List Mark) (before after : List Bool) (x : Bool) → OnPage w h a → k < pixel_count a → length before ≡ w * h → x ≡ lines marks k → Blackened w a k marks before after → Blackened w a (k + 1) marks before (set after (place w a k) x)
blackened_more w h a k marks before after x on there whole is so_far =
    let p = place w a k in
    let inside : p < length after = omega (arith, place_inside w h k a on there, whole, so_far.whole) in
    record {
      whole = length-set after p x ∙ so_far.whole;
      written = λ v below. ⊎_elim
          (λ (same : v ≡ k). rw same (get_or-set_same after p x false inside ∙ is))
          (λ (other : v ≡ k → ⊥).
          let earlier : v < k = omega (arith, other) in
          let apart : place w a v ≡ p → ⊥ = λ meet. other (place_once w h v k a on (omega arith) there meet) in
          get_or-set_other after p (place w a v) x false apart ∙ so_far.written v earlier)
          (cases_eq v k);
      others = λ q apart.
          let other : q ≡ p → ⊥ = λ meet. apart k (omega arith) (sym meet) in
          get_or-set_other after p q x false other ∙ so_far.others q (λ v below. apart v (omega arith));
    }
