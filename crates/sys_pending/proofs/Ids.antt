-- The IDs of the places are those of the running workflows.
use Rattle.std.proofs.Common.{◌≡◌, List, [], ◌∷◌, ◌++◌, map, refl, sym, ap, ◌∙◌}
use Rattle.std.proofs.lemmas.List.{append-nil}
use Rattle.sys_queue.specs.Lines.{Text, Place}
use Rattle.sys_queue.specs.Rows.{Rows}
use Rattle.sys_pending.specs.Running.{Flow, running, running_ids}
use Rattle.sys_pending.specs.Index.{place_of, IsIndexOf}

ids-places : (fs : Rows) → map (λ (p : Place). p.1) (map place_of fs) ≡ map (λ (f : Flow). f.0) fs
ids-places [] = refl
ids-places (f ∷ fs) = ap (λ (ids : List Text). f.0 ∷ ids) (ids-places fs)

pub all_ids : (ids : List Text) (rest places : List Place) → ids ++ map (λ (p : Place). p.1) rest ≡ map (λ (p : Place). p.1) places → rest ≡ [] → (rows : Rows) → IsIndexOf places rows → ids ≡ running_ids rows
all_ids ids rest places so_far end rows index =
    sym (append-nil ids) ∙ ap (λ (ps : List Place). ids ++ map (λ (p : Place). p.1) ps) (sym end) ∙ so_far
    ∙ ap (λ (ps : List Place). map (λ (p : Place). p.1) ps) index.places ∙ ids-places (running rows)
