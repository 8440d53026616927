-- What refuses a whole head, in the order in which it is asked.
use Rattle.std.specs.Prelude.{ℕ, if◌then◌else◌, nat_lt, bytes_eq, List, map, codes, Option, Some, None, Result, Ok, Err, is_some}
use Rattle.httparse.specs.Grammar.{RequestHead}
use Rattle.httparse.specs.Spans.{name_and_value}
use Rattle.matchit.specs.Seek.{first}
use Rattle.matchit.specs.Router.{RouteOf}
use Rattle.http_head.specs.declared.fields.BodyLength.{BodyLength}
use Rattle.http_head.specs.declared.fields.BodyLength.TheVariants as lengths
use Rattle.http_head.specs.declared.route.TheConstants.{MOST_BODY_OCTETS}
use Rattle.http_head.specs.declared.route.Route.{Route}
use Rattle.http_head.specs.declared.route.HeadFault.{HeadFault}
use Rattle.http_head.specs.declared.route.HeadFault.TheVariants as faults
use Rattle.http_head.specs.declared.route.RoutedHead.{RoutedHead}
use Rattle.http_head.specs.Fields.{NamedValue, values_of, first_value, body_length}
use Rattle.http_head.specs.Routes.{hub_routes, method_of, is_put}

-- the parts of a head that count: a Host field, the version and the kinds of line ends don't
pub record HeadParts : Type 0 where
  pub method : List ℕ
  pub target : List ℕ
  pub fields : List NamedValue

abbrev pub parts_of : RequestHead → HeadParts
parts_of head = record { method = head.method; target = head.target; fields = map name_and_value head.fields }

-- A PUT has a Content-Length (411); it is one number of 1 to 9 digits (400), of at most 16,777,216 (413).
abbrev pub size_check : Route → BodyLength → Result RoutedHead HeadFault
size_check route lengths.Absent = if is_put route then Err faults.NoLength else Ok (record { route = route; body_length = 0 })
size_check route lengths.Bad = Err faults.BadRequest
size_check route (lengths.Known n) = if nat_lt MOST_BODY_OCTETS n then Err faults.TooLarge else Ok (record { route = route; body_length = n })

-- No request has Transfer-Encoding (411).
abbrev pub length_check : Route → List NamedValue → Result RoutedHead HeadFault
length_check route fields =
    if is_some (first_value (values_of (codes "transfer-encoding") fields)) then Err faults.NoLength
    else size_check route (body_length (values_of (codes "content-length") fields))

-- The path has a route (404), and the route has the method (405).
abbrev pub route_check : Option (RouteOf Route) → HeadParts → Result RoutedHead HeadFault
route_check None parts = Err faults.NotFound
route_check (Some found) parts =
    if bytes_eq parts.method (method_of found.value) then length_check found.value parts.fields else Err faults.WrongMethod

-- The target as it stands is the path: nothing is cut off it and nothing decoded.
abbrev pub head_checks : HeadParts → Result RoutedHead HeadFault
head_checks parts = route_check (first hub_routes parts.target) parts
