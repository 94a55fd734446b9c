use Rattle.std.proofs.Common.{◌≡◌, Option, Some, None, ◌∙◌, sym}
use Rattle.std.specs.declared.net.ipv4_addr.Ipv4Addr.{Ipv4Addr}
use Rattle.launcher_words.specs.declared.place.Tail.{Tail}
use Rattle.launcher_words.proofs.PlaceLaws.{no_place, parts_of_place, same_place}
use Rattle.launcher_words.proofs.place.read_place.Goals as goal

pub returns-in_default-clause-read : goal.returns-in_default-clause-read
returns-in_default-clause-read c = λ place may is.
    absurd (no_place c.args.text.now c.args.rank place c.in_default.ensures may is)

pub returns-in-Some-Some-clause-read : goal.returns-in-Some-Some-clause-read
returns-in-Some-Some-clause-read c = λ place may is.
    let p = parts_of_place c.args.text.now c.in-Some.host.now c.in-Some.behind.now c.args.rank place
    c.in-Some.ensures may is in
    same_place c.in-Some-Some.host c.in-Some-Some.tail place (c.in-Some-Some.ensures.read place.host may.host p.0)
    (c.in-Some-Some.ensures'.read place.port place.job may.tail p.1)

pub returns-in_default-2-clause-read : goal.returns-in_default-2-clause-read
returns-in_default-2-clause-read c = λ place may is.
    let p = parts_of_place c.args.text.now c.in-Some.host.now c.in-Some.behind.now c.args.rank place
    c.in-Some.ensures may is in
    let none : ◌≡◌ {A = Option Tail} None (Some (record { port = place.port; job = place.job })) =
    c.in_default-2.ensures'.read place.port place.job may.tail p.1 in
    absurd cc

pub returns-in_default-2-2-clause-read : goal.returns-in_default-2-2-clause-read
returns-in_default-2-2-clause-read c = λ place may is.
    let p = parts_of_place c.args.text.now c.in-Some.host.now c.in-Some.behind.now c.args.rank place
    c.in-Some.ensures may is in
    let none : ◌≡◌ {A = Option Ipv4Addr} None (Some place.host) =
    sym c.in_default-2.is-0 ∙ c.address_in.ensures.read place.host may.host p.0 in
    absurd cc
