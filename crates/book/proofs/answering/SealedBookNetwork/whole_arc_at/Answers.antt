use Rattle.std.proofs.Common.{◌≡◌, ◌<◌, arith}
use Rattle.std.proofs.lemmas.Bool.Decides.{nat_tests}
use Rattle.book.specs.Tables.{front}
use Rattle.book.specs.Values.{sealed_table}
use Rattle.book.proofs.Settled.{no_place, code_placed, whole_placed}
use Rattle.book.proofs.answering.SealedBookNetwork.whole_arc_at.Goals as goal

pub returns-then-place-from : goal.returns-then-place-from
returns-then-place-from c =
    let b = c.args.self.now in
    let there : c.args.node < b.held.entries = grind (arith, nat_tests) in
    let none = no_place b c.args.node c.args.place there in
    grind (arith, nat_tests, none)

pub mate-reverse-requires : goal.mate-reverse-requires
mate-reverse-requires c =
    let b = c.args.self.now in
    let there : c.args.node < b.held.entries = grind (arith, nat_tests) in
    let code = code_placed b c.args.node c.args.place there in
    grind (arith, nat_tests, code, b.bound)

pub arc-requires : goal.arc-requires
arc-requires c =
    let b = c.args.self.now in
    let there : c.args.node < b.held.entries = grind (arith, nat_tests) in
    let code = code_placed b c.args.node c.args.place there in
    grind (arith, nat_tests, code)

pub arc-arc-requires : goal.arc-arc-requires
arc-arc-requires c =
    let b = c.args.self.now in
    let there : c.args.node < b.held.entries = grind (arith, nat_tests) in
    let code = code_placed b c.args.node c.args.place there in
    grind (arith, nat_tests, code)

pub returns : goal.returns
returns c =
    let b = c.args.self.now in
    let there : c.args.node < b.held.entries = grind (arith, nat_tests) in
    let entry : c.in_ok-entry.entry ≡ front (sealed_table b) c.args.node = grind (arith, nat_tests) in
    let inside : c.args.place < (front (sealed_table b) c.args.node).arcs_or_head = grind (arith, nat_tests) in
    let is = whole_placed b c.args.node c.args.place there inside in
    cc
