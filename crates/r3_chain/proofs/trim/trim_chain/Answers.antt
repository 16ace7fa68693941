use Rattle.std.proofs.Common.{ap, sym, ◌∙◌, subst}
use Rattle.r3_pool.specs.Slots.{value_at, live_count}
use Rattle.r3_chain.specs.Links.{trace}
use Rattle.r3_chain.specs.Cuts.{Frees}
use Rattle.r3_chain.proofs.LinkLemmas.{first_live}
use Rattle.r3_chain.proofs.TrimLemmas.{at_slot, first_of_cut, line_behind, trims, trims_nothing}
use Rattle.r3_chain.proofs.trim.trim_chain.Goals as goal

pub slot_to_cut-requires : goal.slot_to_cut-requires
slot_to_cut-requires g c = c.requires.ends

pub end_at-older-requires : goal.end_at-older-requires
end_at-older-requires g c =
    let at = at_slot c.args.oldest (live_count c.args.nodes.now) (value_at c.args.nodes.now) c.args.newest c.in-Some.slot (first_of_cut c.args.oldest c.in-Some.slot (trace (live_count c.args.nodes.now) (value_at c.args.nodes.now) c.args.newest) (sym c.in-Some.ensures)) c.requires.ends in
    first_live (live_count c.args.nodes.now) (value_at c.args.nodes.now) c.in-Some.slot at.1.1

pub free_chain-requires : goal.free_chain-requires
free_chain-requires g c =
    rw c.end_at-older.ensures.live
    (line_behind (live_count c.args.nodes.now) c.args.oldest c.in-Some.slot c.args.newest c.end_at-older.result c.args.nodes.now c.end_at-older.new.nodes c.requires (first_of_cut c.args.oldest c.in-Some.slot (trace (live_count c.args.nodes.now) (value_at c.args.nodes.now) c.args.newest) (sym c.in-Some.ensures)) c.end_at-older.ensures).0

pub returns-in-Some : goal.returns-in-Some
returns-in-Some g c =
    let line = line_behind (live_count c.args.nodes.now) c.args.oldest c.in-Some.slot c.args.newest c.end_at-older.result c.args.nodes.now c.end_at-older.new.nodes c.requires (first_of_cut c.args.oldest c.in-Some.slot (trace (live_count c.args.nodes.now) (value_at c.args.nodes.now) c.args.newest) (sym c.in-Some.ensures)) c.end_at-older.ensures in
    trims (live_count c.args.nodes.now) c.args.oldest c.in-Some.slot c.args.newest c.end_at-older.result c.args.nodes.now c.end_at-older.new.nodes c.free_chain.new.nodes c.requires (first_of_cut c.args.oldest c.in-Some.slot (trace (live_count c.args.nodes.now) (value_at c.args.nodes.now) c.args.newest) (sym c.in-Some.ensures)) c.end_at-older.ensures
    (subst (λ ps. Frees ps c.end_at-older.new.nodes c.free_chain.new.nodes)
    (ap (λ m. trace m (value_at c.end_at-older.new.nodes) c.end_at-older.result) c.end_at-older.ensures.live ∙ line.1) c.free_chain.ensures)

pub returns-in_default : goal.returns-in_default
returns-in_default g c =
    trims_nothing (live_count c.args.nodes.now) c.args.oldest c.args.newest c.args.nodes.now c.requires.ends (sym (rw c.in_default.is at c.slot_to_cut.ensures))
