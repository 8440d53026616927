-- What an insert does to the table.
use Rattle.std.proofs.Common.{◌≡◌, Result, Ok, Err, OnOk, List, ℕ}
use Rattle.matchit.specs.Route.{Scan, parse_route}
use Rattle.matchit.specs.Router.{InsertsRead}
use Rattle.matchit.specs.declared.error.InsertError.{InsertError}
use Rattle.http_head.specs.declared.route.Route.{Route}
use Rattle.http_head.specs.Routes.{RouteTable, with_scan, with_route}

scanned : (p : Result Scan InsertError) (route : Route) (old new : RouteTable) (r : Result (Unit {0}) InsertError) → InsertsRead p route old new r → OnOk r (new ≡ with_scan p route old)
scanned (Ok s) route old new (Ok u) h = h.1
scanned (Err e) route old new (Ok u) h = h.0
scanned (Ok s) route old new (Err e) h = tt
scanned (Err e) route old new (Err f) h = tt

pub inserted : (text : List ℕ) (route : Route) (old new : RouteTable) (r : Result (Unit {0}) InsertError) → InsertsRead (parse_route text) route old new r → OnOk r (new ≡ with_route text route old)
unfolding with_route
inserted text route old new r h = scanned (parse_route text) route old new r h
