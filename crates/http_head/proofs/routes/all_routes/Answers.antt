use Rattle.std.proofs.Common.{◌∙◌, ap, codes}
use Rattle.http_head.specs.declared.route.Route.TheVariants as routes
use Rattle.http_head.specs.Routes.{with_route, hub_routes}
use Rattle.http_head.proofs.routes.all_routes.Goals as goal

pub returns : goal.returns
unfolding hub_routes
returns c = c.in_ok-add-10.ensures ∙ ap (with_route (codes "/stop") routes.Stop) (c.in_ok-add-9.ensures ∙ ap (with_route (codes "/turn") routes.Turn) (c.in_ok-add-8.ensures ∙ ap (with_route (codes "/approvals/{name}/{verdict}/{by}") routes.Decide) (c.in_ok-add-7.ensures ∙ ap (with_route (codes "/rules") routes.Rules) (c.in_ok-add-6.ensures ∙ ap (with_route (codes "/directory") routes.Directory) (c.in_ok-add-5.ensures ∙ ap (with_route (codes "/folders/{key}/{name}") routes.Item) (c.in_ok-add-4.ensures ∙ ap (with_route (codes "/folders/{key}") routes.Folder) (c.in_ok-add-3.ensures ∙ ap (with_route (codes "/ended") routes.Ended) (c.in_ok-add-2.ensures ∙ ap (with_route (codes "/approvals") routes.Approvals) (c.in_ok-add.ensures ∙ ap (with_route (codes "/queue") routes.Queue) c.new-router.ensures)))))))))
