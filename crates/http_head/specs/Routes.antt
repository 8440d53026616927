-- The routes of the hub, and the method of each.
use Rattle.std.specs.Prelude.{ℕ, Bool, true, false, List, [], codes, Result, Ok, Err}
use Rattle.matchit.specs.Rows.{RowsOf}
use Rattle.matchit.specs.Order.{placed}
use Rattle.matchit.specs.Route.{Scan, parse_route}
use Rattle.matchit.specs.Router.{RouteOf, route_from}
use Rattle.matchit.specs.declared.error.InsertError.{InsertError}
use Rattle.http_head.specs.declared.route.Route.{Route}
use Rattle.http_head.specs.declared.route.Route.TheVariants as routes

abbrev pub RouteTable : Type 0
RouteTable = RowsOf (RouteOf Route)

abbrev pub with_scan : Result Scan InsertError → Route → RouteTable → RouteTable
with_scan (Ok scan) route table = placed (scan.pattern, route_from scan route) table
with_scan (Err e) route table = table

-- the table with one more route
unfoldable pub with_route : List ℕ → Route → RouteTable → RouteTable
with_route text route table = with_scan (parse_route text) route table

-- the routes of the hub, the last of which is added first
unfoldable pub hub_routes : RouteTable
hub_routes =
    with_route (codes "/stop") routes.Stop
    (with_route (codes "/turn") routes.Turn
    (with_route (codes "/approvals/{name}/{verdict}/{by}") routes.Decide
    (with_route (codes "/rules") routes.Rules
    (with_route (codes "/directory") routes.Directory
    (with_route (codes "/folders/{key}/{name}") routes.Item
    (with_route (codes "/folders/{key}") routes.Folder
    (with_route (codes "/ended") routes.Ended
    (with_route (codes "/approvals") routes.Approvals
    (with_route (codes "/queue") routes.Queue [])))))))))

-- the one method of a route
abbrev pub method_of : Route → List ℕ
method_of routes.Queue = codes "GET"
method_of routes.Approvals = codes "GET"
method_of routes.Ended = codes "GET"
method_of routes.Folder = codes "GET"
method_of routes.Item = codes "GET"
method_of routes.Directory = codes "PUT"
method_of routes.Rules = codes "PUT"
method_of routes.Decide = codes "POST"
method_of routes.Turn = codes "POST"
method_of routes.Stop = codes "POST"

-- The method is PUT.
abbrev pub is_put : Route → Bool
is_put routes.Queue = false
is_put routes.Approvals = false
is_put routes.Ended = false
is_put routes.Folder = false
is_put routes.Item = false
is_put routes.Directory = true
is_put routes.Rules = true
is_put routes.Decide = false
is_put routes.Turn = false
is_put routes.Stop = false
